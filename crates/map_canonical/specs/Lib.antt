-- The definitions of this crate.
pub mod ByKey
pub mod Canonical
