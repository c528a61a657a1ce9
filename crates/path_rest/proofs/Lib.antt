-- The lemmas of this crate. The proof of each function is in the folder of its name.
pub mod RestLaws
pub mod CarriedLaws
