-- The definitions of this crate.
pub mod Rest
pub mod Carried
