-- The definitions of this crate.
pub mod Batch
pub mod BatchStep
