use mathlib.Core.Path.{ap, ◌∙◌}
use Rattle.ffi_values.specs.Code.{reply_code}
use Rattle.mudvizsor.proofs.relocate_calls.mudvizsor_shift_through_nearest_ancestor.Goals as goal

pub returns : goal.returns
returns c = (c.reply_code.ensures ∙ ap reply_code c.shift_through_nearest_ancestor.ensures.0, c.shift_through_nearest_ancestor.ensures.1)
