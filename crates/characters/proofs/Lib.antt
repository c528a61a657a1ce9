-- The lemmas of this crate. The proof of each function is in the folder of its name.
pub mod ReadingLaws
pub mod AllowedLaws
pub mod EncodeLaws
pub mod Theorem
mod LenLaws
mod TestLaws
mod CodeLaws
mod FastLaws
mod FastTableLaws
