use mathlib.Core.Path.{ap, ◌∙◌}
use Rattle.ffi_values.specs.Code.{reply_code}
use Rattle.mudvizsor.proofs.mudvizsor_path_replace_prefix.Goals as goal

pub returns : goal.returns
returns c =
    let returned = c.replace_prefix.ensures.returns_path in
    (c.reply_code.ensures ∙ ap reply_code returned.0, returned.1)
