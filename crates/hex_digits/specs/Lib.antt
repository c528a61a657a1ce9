-- The definitions of this crate.
pub mod Hex
pub mod Calls
