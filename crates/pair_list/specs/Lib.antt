-- The definitions of this crate.
pub mod Pair
pub mod Places
pub mod Best
pub mod BestStep
pub mod LongestMatch
