-- The lemmas of this crate; the proof of each function is in a folder of its name.
pub mod TextLaws
pub mod CallBranches
pub mod PassedLaws
pub mod RankLaws
