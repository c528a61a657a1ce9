use mathlib.Core.Path.{ap, ◌∙◌}
use Rattle.ffi_values.specs.Code.{count_code}
use Rattle.mudvizsor.proofs.mudvizsor_path_prim_element_count.Goals as goal

pub returns : goal.returns
returns c = c.count_code.ensures ∙ ap count_code c.prim_element_count.ensures
