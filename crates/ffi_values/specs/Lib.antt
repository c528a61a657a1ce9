-- The definitions of this crate.
pub mod Map
pub mod Time
pub mod MapCode
pub mod Code
