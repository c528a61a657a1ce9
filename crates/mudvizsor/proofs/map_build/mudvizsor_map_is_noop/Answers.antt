use mathlib.Core.Path.{ap, ◌∙◌}
use Rattle.ffi_values.specs.Code.{test_code}
use Rattle.mudvizsor.proofs.map_build.mudvizsor_map_is_noop.Goals as goal

pub returns : goal.returns
returns c = rw (← c.map_from_numbers-map.ensures) (c.test_code.ensures ∙ ap test_code c.is_noop.ensures)
