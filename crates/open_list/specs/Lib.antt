-- The definitions of this crate.
pub mod Add
pub mod OpenList
