use mathlib.Core.Path.{ap, ◌∙◌}
use Rattle.ffi_values.specs.Code.{reply_code}
use Rattle.mudvizsor.proofs.routes.mudvizsor_route_out.Goals as goal

pub returns : goal.returns
returns c = (c.reply_code.ensures ∙ ap reply_code c.route_out.ensures.0, c.route_out.ensures.1)
