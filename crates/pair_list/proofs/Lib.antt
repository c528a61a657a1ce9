-- The lemmas of this crate. The proof of each function is in the folder of its name.
pub mod PlaceBranches
pub mod BestLaws
pub mod LongestMatchLaws
pub mod PlaceLaws
pub mod ListLaws
