use mathlib.Core.Path.{ap, ◌∙◌}
use Rattle.ffi_values.specs.Code.{validation_code}
use Rattle.mudvizsor.proofs.routes.mudvizsor_route_all.Goals as goal

pub returns : goal.returns
returns c = (
  c.validation_code.ensures ∙ ap validation_code c.route_all.ensures.0,
  (c.route_all.ensures.1.0, c.route_all.ensures.1.1),
)
