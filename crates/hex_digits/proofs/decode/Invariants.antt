-- The loop. The first i bytes of the buffer are those of the first 2 i digits.
use Rattle.hex_digits.proofs.DecodeLaws.{values}
use mathlib.Core.Path.{◌≡◌}
use lib.Seq.{paste}
use Rattle.hex_digits.proofs.decode.Given as goal

abbrev pub invariant-loop-i : goal.invariant-loop-i
invariant-loop-i l = (l.out ≡ paste l.initial.out 0 (values l.text) l.i)
