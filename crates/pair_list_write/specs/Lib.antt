-- The definitions of this crate.
pub mod Packed
pub mod Lists
pub mod Select
