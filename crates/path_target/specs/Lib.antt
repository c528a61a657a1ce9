-- The definitions of this crate.
pub mod Target
pub mod Calls
pub mod TargetTheorems
