-- The lemmas of this crate. The proof of each function is in the folder of its name.
pub mod BoolLaws
pub mod RangeLaws
pub mod TableLaws
pub mod TextLaws
pub mod UntilLaws
pub mod WriteLaws
pub mod Clauses
