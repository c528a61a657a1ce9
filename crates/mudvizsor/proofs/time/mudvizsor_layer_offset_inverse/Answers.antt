use mathlib.Core.Path.{ap, ◌∙◌}
use Rattle.ffi_values.specs.Time.{offset_numbers}
use Rattle.mudvizsor.proofs.time.mudvizsor_layer_offset_inverse.Goals as goal

pub returns : goal.returns
returns c = c.write_offset.ensures ∙ ap offset_numbers c.inverse.ensures
