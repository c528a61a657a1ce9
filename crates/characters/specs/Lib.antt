-- The definitions of this crate.
pub mod Utf8
pub mod NameCharacter
pub mod CharacterLen
pub mod FastScan
