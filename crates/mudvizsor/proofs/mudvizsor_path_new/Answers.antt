use mathlib.Core.Path.{ap, ◌∙◌}
use Rattle.ffi_values.specs.Code.{validation_code}
use Rattle.mudvizsor.proofs.mudvizsor_path_new.Goals as goal

pub returns : goal.returns
returns c = c.validation_code.ensures ∙ ap validation_code c.new.ensures
