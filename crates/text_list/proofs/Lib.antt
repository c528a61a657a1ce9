-- The lemmas and theorems of this crate.
pub mod PackedLaws
pub mod PlaceBranches
