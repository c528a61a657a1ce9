-- The lemmas of this crate; the proof of each function is in a folder of its name.
pub mod LineBranches
pub mod ApplyBranches
pub mod FrameBranches
