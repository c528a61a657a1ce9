use borrow.Author.Rules.{rules}
use lib.Ieee.{of_bits}
use Rattle.layer_offset.specs.Offset.{inverse_offset}
use Rattle.layer_offset.proofs.Branches.{ways}
use Rattle.layer_offset.proofs.LayerOffset.inverse.Goals as goal

pub returns-then-self : goal.returns-then-self
unfolding inverse_offset of_bits
returns-then-self c = search (rules, ways)

pub returns : goal.returns
unfolding inverse_offset of_bits
returns c = search (rules, ways)
