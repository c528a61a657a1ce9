-- The definitions of this crate.
pub mod CopyOut
pub mod Calls
pub mod Direction
