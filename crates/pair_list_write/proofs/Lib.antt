-- The lemmas of this crate. The proof of each function is in the folder of its name.
pub mod RoomBranches
pub mod WriteBranches
pub mod CopyLaws
pub mod SelectLaws
pub mod PushBranches
pub mod PackedLaws
