use borrow.Author.Rules.{rules}
use lib.Ieee.{of_bits}
use Rattle.layer_offset.specs.Offset.{is_identity}
use Rattle.layer_offset.proofs.Branches.{ways}
use Rattle.layer_offset.proofs.LayerOffset.is_identity.Goals as goal

pub returns-then-self : goal.returns-then-self
unfolding is_identity of_bits
returns-then-self c = search (rules, ways)

pub returns-else-self : goal.returns-else-self
unfolding is_identity of_bits
returns-else-self c = search (rules, ways)
