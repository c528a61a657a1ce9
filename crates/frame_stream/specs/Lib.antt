-- The definitions of this crate.
pub mod Stream
pub mod StreamTheorems
pub mod Progress
