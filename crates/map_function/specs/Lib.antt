-- The definitions of this crate.
pub mod MapOutcome
pub mod MapFunction
