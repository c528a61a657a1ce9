use mathlib.Core.Path.{ap, ◌∙◌}
use Rattle.ffi_rest.specs.RestCode.{carried_code}
use Rattle.mudvizsor.proofs.carried.mudvizsor_map_target_to_source_carried.Goals as goal

pub returns : goal.returns
returns c =
    let mapped = rw c.untimed_map-map.ensures at c.map_target_to_source_carried-carried.ensures in
    (c.carried_code.ensures ∙ ap (carried_code _) mapped.0, mapped.1)
