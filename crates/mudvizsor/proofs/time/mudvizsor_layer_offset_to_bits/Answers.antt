use mathlib.Core.Path.{ap, ◌∙◌}
use Rattle.ffi_values.specs.Time.{offset_patterns}
use Rattle.mudvizsor.proofs.time.mudvizsor_layer_offset_to_bits.Goals as goal

pub returns : goal.returns
returns c = c.write_bits.ensures ∙ ap offset_patterns c.to_bits.ensures
