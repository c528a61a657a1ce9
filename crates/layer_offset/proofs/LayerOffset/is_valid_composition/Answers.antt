use borrow.Author.Rules.{rules}
use lib.Ieee.{of_bits}
use Rattle.layer_offset.specs.Offset.{is_valid_composition}
use Rattle.layer_offset.proofs.Branches.{ways}
use Rattle.layer_offset.proofs.LayerOffset.is_valid_composition.Goals as goal

pub returns-then-is_valid : goal.returns-then-is_valid
unfolding is_valid_composition of_bits
returns-then-is_valid c = search (rules, ways)

pub returns-else-is_valid : goal.returns-else-is_valid
unfolding is_valid_composition of_bits
returns-else-is_valid c = search (rules, ways)
