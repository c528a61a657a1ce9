-- The lemmas of this crate. The proof of each function is in the folder of its name.
pub mod SeparatorLaws
mod LayoutLaws
pub mod JoinBranches
pub mod ReplaceLaws
pub mod TailLaws
pub mod JoinLaws
pub mod JoinLegal
pub mod JoinParts
