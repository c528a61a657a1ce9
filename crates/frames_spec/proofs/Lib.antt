-- The lemmas and theorems of this crate.
pub mod RunLaws
pub mod InputLaws
