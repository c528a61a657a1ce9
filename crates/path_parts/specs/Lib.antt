-- The definitions of this crate.
pub mod Parent
pub mod Strip
