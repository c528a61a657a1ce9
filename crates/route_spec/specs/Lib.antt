-- The definitions of this crate.
pub mod Leg
pub mod Route
pub mod Rest
