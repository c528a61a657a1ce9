-- The definitions of this crate.
pub mod Map
pub mod New
pub mod Compose
pub mod Derive
pub mod Leg
