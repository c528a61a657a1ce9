-- The lemmas of this crate.
mod MadeLaws
mod MapUnmoved
mod ChainUnmoved
pub mod Theorem
