-- The lemmas of this crate. The proof of each function is in the folder of its name.
pub mod PathLaws
