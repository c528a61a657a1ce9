use mathlib.Core.Path.{ap, ◌∙◌}
use Rattle.ffi_values.specs.Code.{reply_code}
use Rattle.mudvizsor.proofs.mudvizsor_path_prim_path.Goals as goal

pub returns : goal.returns
returns c = (c.reply_code.ensures ∙ ap reply_code c.prim_path.ensures.0, c.prim_path.ensures.1)
