-- Lemmas about one float.
use mathlib.Core.Path.{◌≡◌, refl}
use mathlib.Core.Bool.{Bool, true, false, false≢true}
use Prim.Native.Nat.{ℕ, ◌<◌}
use native.Mathlib.Omega.{arith}
use lib.Ieee.{Float, nan, inf, fin, binary64, round, to_bits, is_nan}
use lib.Ieee.Scale.{round_same}
use Rattle.std.specs.Float.{float_is_finite, float_with_sign}
use Rattle.layer_offset.specs.Number.{is_finite, absolute_value, bit_pattern}

-- A fraction that is zero rounds to zero.
pub round_zero : (s : Bool) (c : ℕ) → 0 < c → round binary64 s 0 c ≡ round binary64 s 0 1
round_zero s c h = round_same binary64 s 0 c 0 1 h (omega arith) (omega arith)

-- The library's words for the same.
pub finite_is : (x : Float) → float_is_finite x ≡ is_finite x
unfolding float_is_finite
finite_is nan = refl
finite_is (inf s) = refl
finite_is (fin s m e) = refl

pub absolute_is : (x : Float) → float_with_sign false x ≡ absolute_value x
unfolding float_with_sign
absolute_is nan = refl
absolute_is (inf s) = refl
absolute_is (fin s m e) = refl

-- Every NaN has one pattern.
pub pattern_nan : (x : Float) → is_nan x ≡ true → 0x7ff8_0000_0000_0000 ≡ bit_pattern x
unfolding to_bits is_nan
pattern_nan nan h = refl
pattern_nan (inf s) h = absurd (false≢true h)
pattern_nan (fin s m e) h = absurd (false≢true h)
