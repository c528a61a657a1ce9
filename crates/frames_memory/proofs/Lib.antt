-- The lemmas of this crate; the proof of each function is in a folder of its name.
pub mod PieceLaws
pub mod StoredLaws
pub mod LegLaws
pub mod RouteLaws
pub mod OpenListLaws
pub mod ValidateLaws
pub mod RouteValidLaws
pub mod AddLaws
pub mod CloseLaws
pub mod Theorem
