use borrow.Author.Rules.{rules}
use lib.Ieee.{of_bits}
use Rattle.layer_offset.proofs.LayerOffset.scale_only.Goals as goal

pub returns : goal.returns
unfolding of_bits
returns c = search rules
