use mathlib.Core.Path.{ap, ◌∙◌}
use Rattle.map_function.specs.declared.MapFunction.{MapFunction}
use Rattle.ffi_values.specs.Time.{offset_numbers}
use Rattle.mudvizsor.proofs.map_info.mudvizsor_map_time_offset.Goals as goal

pub returns : goal.returns
returns c = c.write_offset.ensures ∙ ap offset_numbers (c.time_offset.ensures ∙ ap (λ (f : MapFunction). f.time_offset) c.map_from_numbers-map.ensures)
