-- The definitions of this crate.
pub mod Header
pub mod LineBytes
