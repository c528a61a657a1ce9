-- The definitions of this crate.
pub mod Prepared
pub mod Prepare
