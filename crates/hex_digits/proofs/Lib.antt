-- The lemmas of this crate. The proof of each function is in the folder of its name.
pub mod HexLaws
pub mod DecodeLaws
pub mod EncodeLaws
pub mod Theorem
