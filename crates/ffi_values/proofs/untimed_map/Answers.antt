use mathlib.Core.Path.{refl}
use lib.Ieee.{of_bits}
use Rattle.ffi_values.proofs.untimed_map.Goals as goal

pub returns : goal.returns
unfolding of_bits
returns c = refl
