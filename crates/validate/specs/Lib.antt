-- The definitions of this crate.
pub mod Validate
pub mod Select
