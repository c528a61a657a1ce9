-- The lemmas of this crate. The proof of each function is in the folder of its name.
mod LookupBranches
mod OtherWinsBranches
