-- The definitions of this crate.
pub mod Calls
pub mod Fast
pub mod Unaltered
pub mod RoundTrip
