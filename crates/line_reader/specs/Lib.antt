-- The definitions of this crate.
pub mod Lines
pub mod Blocks
pub mod TakeLine
