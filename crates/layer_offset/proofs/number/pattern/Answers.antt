use Rattle.std.proofs.Common.{sym, ◌∙◌}
use Rattle.layer_offset.proofs.NumberLaws.{pattern_nan}
use Rattle.layer_offset.proofs.number.pattern.Goals as goal

pub returns-then-is_nan : goal.returns-then-is_nan
returns-then-is_nan c = pattern_nan _ (sym c.is_nan.ensures.value ∙ c.if-is_nan.true)
