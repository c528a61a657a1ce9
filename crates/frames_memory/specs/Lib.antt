-- The definitions of this crate.
pub mod Memory
pub mod Represents
