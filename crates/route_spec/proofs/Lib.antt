-- The lemmas and theorems of this crate.
pub mod RelocateLaws
pub mod Theorem
pub mod Necessary
pub mod RouteLaws
pub mod RestTheorem
