-- The lemmas of this crate. The proof of each function is in the folder of its name.
mod PrefixBranches
mod CountBranches
pub mod CountLaws
pub mod PrefixLaws
pub mod CountTheorem
