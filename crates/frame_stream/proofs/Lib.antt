-- The lemmas of this crate; the proof of each function is in a folder of its name.
pub mod AnswerLaws
pub mod ProgressLaws
pub mod StepBranches
pub mod StreamLaws
pub mod Theorem
