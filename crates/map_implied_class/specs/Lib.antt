-- The definitions of this crate.
pub mod Implied
pub mod Finish
