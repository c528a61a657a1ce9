use borrow.Author.Rules.{rules}
use Rattle.path_own.proofs.OwnBranches.{selection_none, selection_own}
use Rattle.path_own.proofs.has_variant_selection.Goals as goal

pub returns-then-lacks_byte : goal.returns-then-lacks_byte
returns-then-lacks_byte c = search (rules, selection_none)

pub returns : goal.returns
returns c = selection_own _ _ _ c.own_part.ensures c.lacks_byte-2.ensures
