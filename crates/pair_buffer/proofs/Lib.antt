-- The lemmas of this crate; the proof of each function is in a folder of its name.
pub mod PairBufferLaws
pub mod SourceLaws
mod EveryLaws
mod ShortBranches
pub mod LengthLaws
pub mod MapLaws
mod EndBranches
pub mod RangeLaws
