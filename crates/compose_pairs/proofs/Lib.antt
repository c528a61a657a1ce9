-- The lemmas of this crate; the proof of each function is in a folder of its name.
mod PlainMappingBranches
pub mod PackLaws
mod PullBackBranches
pub mod EveryLaws
pub mod LengthLaws
pub mod ComposeFitsBranches
mod ComposeBranches
