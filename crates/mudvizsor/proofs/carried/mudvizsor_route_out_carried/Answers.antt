use mathlib.Core.Path.{ap, ◌∙◌}
use Rattle.ffi_rest.specs.RestCode.{carried_code}
use Rattle.mudvizsor.proofs.carried.mudvizsor_route_out_carried.Goals as goal

pub returns : goal.returns
returns c = (c.carried_code.ensures ∙ ap (carried_code _) c.route_out_carried-carried.ensures.0, c.route_out_carried-carried.ensures.1)
