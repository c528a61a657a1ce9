-- The lemmas of this crate. The proof of each function is in the folder of its name.
pub mod RunLaws
pub mod OwnLaws
pub mod LegalLaws
pub mod NameLaws
pub mod RenderLacks
pub mod Render
mod Parse
pub mod Theorem
mod ScanLaws
mod ByteLaws
mod EndLaws
mod CodeLaws
mod InnerLaws
