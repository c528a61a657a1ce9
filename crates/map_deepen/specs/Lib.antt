-- The definitions of this crate.
pub mod FindClass
pub mod Calls
