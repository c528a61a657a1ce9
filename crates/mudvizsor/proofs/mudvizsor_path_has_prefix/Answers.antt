use mathlib.Core.Path.{ap, ◌∙◌}
use Rattle.ffi_values.specs.Code.{test_code}
use Rattle.mudvizsor.proofs.mudvizsor_path_has_prefix.Goals as goal

pub returns : goal.returns
returns c = c.test_code.ensures ∙ ap test_code c.has_prefix.ensures
