-- The lemmas of this crate; the proof of each function is in a folder of its name.
pub mod MoveLaws
pub mod LoopStateLaws
