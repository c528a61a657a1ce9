-- The lemmas of this crate. The proof of each function is in the folder of its name.
pub mod DropLaws
pub mod WeightLaws
pub mod EndLaws
pub mod OutcomeLaws
pub mod LegLaws
pub mod Necessary
pub mod LentLaws
