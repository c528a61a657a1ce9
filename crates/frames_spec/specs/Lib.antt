-- The definitions of this crate.
pub mod Frame
pub mod State
pub mod Run
pub mod Input
