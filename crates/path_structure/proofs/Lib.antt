-- The lemmas of this crate.
mod PartLaws
mod ParentTheorem
mod PrimTheorem
mod StripTheorem
mod AncestorTheorem
pub mod Theorem
