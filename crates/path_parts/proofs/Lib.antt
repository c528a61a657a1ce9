-- The lemmas of this crate. The proof of each function is in the folder of its name.
pub mod ReadLaws
pub mod LastLaws
pub mod ParentLaws
pub mod AncestorLaws
pub mod StripLaws
mod PartLaws
mod ScanLaws
mod EmitLaws
