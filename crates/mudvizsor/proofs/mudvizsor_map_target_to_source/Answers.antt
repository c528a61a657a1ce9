use mathlib.Core.Path.{ap, ◌∙◌}
use Rattle.ffi_values.specs.Code.{reply_code}
use Rattle.mudvizsor.proofs.mudvizsor_map_target_to_source.Goals as goal

pub returns : goal.returns
returns c =
    rw (← c.untimed_map-map.ensures) (
      c.reply_code.ensures ∙ ap reply_code c.map_target_to_source.ensures.0,
      c.map_target_to_source.ensures.1,
    )
