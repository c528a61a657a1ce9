use Rattle.std.proofs.Common.{◌∙◌}
use Rattle.layer_offset.specs.Offset.{is_valid}
use Rattle.layer_offset.proofs.Branches.{and_on, and_left}
use Rattle.layer_offset.proofs.NumberLaws.{finite_is}
use Rattle.layer_offset.proofs.LayerOffset.is_valid.Goals as goal

pub returns-then-is_finite : goal.returns-then-is_finite
unfolding is_valid
returns-then-is_finite c =
    and_on _ _ _ _ (c.is_finite.ensures.value ∙ finite_is _) c.if-is_finite.true (c.is_finite-then-is_finite.ensures.value ∙ finite_is _)

pub returns-else-is_finite : goal.returns-else-is_finite
unfolding is_valid
returns-else-is_finite c = and_left _ _ _ (c.is_finite.ensures.value ∙ finite_is _) c.if-is_finite.false
