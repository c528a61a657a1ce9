use mathlib.Core.Path.{ap, ◌∙◌}
use Rattle.ffi_values.specs.Code.{reply_code}
use Rattle.mudvizsor.proofs.mudvizsor_path_embedded_target.Goals as goal

pub returns : goal.returns
returns c = (c.reply_code.ensures ∙ ap reply_code c.embedded_target.ensures.0, c.embedded_target.ensures.1)
