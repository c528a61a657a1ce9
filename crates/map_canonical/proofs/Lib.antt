-- The lemmas of this crate. The proof of each function is in the folder of its name.
pub mod LevelLaws
pub mod KeptLaws
pub mod KeepBranches
pub mod LevelBranches
