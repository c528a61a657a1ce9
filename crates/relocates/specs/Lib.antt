-- The definitions of this crate.
pub mod Status
pub mod Initial
pub mod Calls
pub mod Select
