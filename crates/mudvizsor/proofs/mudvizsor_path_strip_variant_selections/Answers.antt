use mathlib.Core.Path.{ap, ◌∙◌}
use Rattle.ffi_values.specs.Code.{reply_code}
use Rattle.mudvizsor.proofs.mudvizsor_path_strip_variant_selections.Goals as goal

pub returns : goal.returns
returns c = (c.reply_code.ensures ∙ ap reply_code c.strip_variant_selections.ensures.0, c.strip_variant_selections.ensures.1)
