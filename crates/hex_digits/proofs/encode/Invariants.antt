-- The loop. The digits of the first i bytes are written.
use mathlib.Core.Path.{◌≡◌}
use Prim.Native.Nat.{◌*◌}
use lib.Seq.{paste}
use Rattle.hex_digits.specs.Hex.{encode_hex}
use Rattle.hex_digits.proofs.encode.Given as goal

abbrev pub invariant-loop-i : goal.invariant-loop-i
invariant-loop-i l = (l.out ≡ paste l.initial.out l.at (encode_hex l.bytes) (2 * l.i))
