use mathlib.Core.Path.{ap, ◌∙◌}
use Rattle.ffi_values.specs.Code.{validation_code}
use Rattle.mudvizsor.proofs.mudvizsor_map_all.Goals as goal

pub returns : goal.returns
returns c =
    rw (← c.untimed_map-map.ensures, ← c.direction_of-direction.ensures) (
      c.validation_code.ensures ∙ ap validation_code c.map_all.ensures.0,
      (c.map_all.ensures.1.0, c.map_all.ensures.1.1),
    )
