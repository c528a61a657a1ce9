-- The definitions of this crate.
pub mod Grammar
pub mod Own
pub mod Legal
pub mod InnerText
pub mod PackedScan
