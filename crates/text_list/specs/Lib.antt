-- The definitions of this crate.
pub mod Places
pub mod Packed
