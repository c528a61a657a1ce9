use borrow.Author.Rules.{rules}
use Rattle.layer_offset.proofs.Branches.{ways}
use Rattle.layer_offset.proofs.LayerOffset.is_near.Goals as goal

pub returns-then-is_small : goal.returns-then-is_small
returns-then-is_small c = search (rules, ways)

pub returns-else-is_small : goal.returns-else-is_small
returns-else-is_small c = search (rules, ways)
