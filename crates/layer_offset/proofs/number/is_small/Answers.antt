use Rattle.std.proofs.Common.{ap, ◌∙◌}
use lib.Ieee.{of_bits, lt}
use Rattle.std.specs.Prelude.{Float}
use Rattle.layer_offset.specs.Number.{is_small, tolerance}
use Rattle.layer_offset.proofs.NumberLaws.{absolute_is}
use Rattle.layer_offset.proofs.number.is_small.Goals as goal

pub returns : goal.returns
unfolding is_small of_bits
returns c = ap (λ (y : Float). lt y tolerance) (c.abs.ensures.value ∙ absolute_is _)
