-- The lemmas of this crate. The proof of each function is in the folder of its name.
pub mod ValidateBranches
pub mod RefusalLaws
pub mod PassedLaws
pub mod SelectLaws
