use mathlib.Core.Path.{ap, ◌∙◌}
use Rattle.ffi_values.specs.Code.{reply_code}
use Rattle.mudvizsor.proofs.mudvizsor_map_source_to_target.Goals as goal

pub returns : goal.returns
returns c =
    rw (← c.untimed_map-map.ensures) (
      c.reply_code.ensures ∙ ap reply_code c.map_source_to_target.ensures.0,
      c.map_source_to_target.ensures.1,
    )
