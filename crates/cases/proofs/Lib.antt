-- The lemmas and theorems of this crate.
pub mod Tell
pub mod Table
pub mod Wrong
pub mod WrongPaths
pub mod WrongTimes
pub mod WrongMaps
pub mod WrongRelocates
pub mod WrongRests
pub mod WrongTargets
pub mod WrongNames
pub mod TargetTable
pub mod WrongFrames
