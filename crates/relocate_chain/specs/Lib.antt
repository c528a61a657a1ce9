-- The definitions of this crate.
pub mod Chain
pub mod ChainStep
pub mod Calls
