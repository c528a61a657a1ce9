-- The lemmas of this crate; the proof of each function is in a folder of its name.
pub mod FastLaws
pub mod RunBranches
mod UnalteredBranches
pub mod RestLaws
pub mod Corollary
pub mod CallBranches
pub mod ShortLaws
