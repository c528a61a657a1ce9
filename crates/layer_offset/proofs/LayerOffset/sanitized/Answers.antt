use borrow.Author.Rules.{rules}
use lib.Ieee.{of_bits}
use Rattle.layer_offset.specs.Offset.{sanitized}
use Rattle.layer_offset.proofs.Branches.{ways}
use Rattle.layer_offset.proofs.LayerOffset.sanitized.Goals as goal

pub returns-then-is_valid_composition : goal.returns-then-is_valid_composition
unfolding sanitized of_bits
returns-then-is_valid_composition c = search (rules, ways)

pub returns-else-is_valid_composition : goal.returns-else-is_valid_composition
unfolding sanitized of_bits
returns-else-is_valid_composition c = search (rules, ways)
