-- The lemmas of this crate; the proof of each function is in a folder of its name.
pub mod StatusBranches
pub mod InitialBranches
mod AnalyzeBranches
pub mod ActiveLaws
mod ActiveBranches
