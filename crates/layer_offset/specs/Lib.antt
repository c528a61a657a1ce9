-- The definitions of this crate.
pub mod Number
pub mod Offset
