use borrow.Author.Rules.{rules}
use Rattle.layer_offset.specs.Offset.{is_close}
use Rattle.layer_offset.proofs.Branches.{ways}
use Rattle.layer_offset.proofs.LayerOffset.is_close.Goals as goal

pub returns-then-is_valid-2 : goal.returns-then-is_valid-2
unfolding is_close
returns-then-is_valid-2 c = search (rules, ways)

pub returns-else-is_valid-2 : goal.returns-else-is_valid-2
unfolding is_close
returns-else-is_valid-2 c = search (rules, ways)

pub returns-then-not-is_valid : goal.returns-then-not-is_valid
unfolding is_close
returns-then-not-is_valid c = search (rules, ways)

pub returns-else-not-is_valid : goal.returns-else-not-is_valid
unfolding is_close
returns-else-not-is_valid c = search (rules, ways)
