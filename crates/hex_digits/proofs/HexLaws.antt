-- Lemmas about the value of a byte.
use Rattle.std.specs.Prelude.{Some, None}
use Rattle.std.specs.Char.{is_ascii_hexdigit}
use mathlib.Core.Path.{◌≡◌, refl}
use mathlib.Core.Bool.{Bool, true, false, cond, ◌||◌}
use Prim.Native.Nat.{ℕ, ◌-◌, ◌≤◌, ◌<◌}
use native.Mathlib.Omega.{arith}
use Rattle.text.specs.Range.{in_range}
use Rattle.text.proofs.RangeLaws.{within_yes, within_above, within_high}
use Rattle.hex_digits.specs.Hex.{hex_value}
use Rattle.hex_digits.specs.Calls.{has_value, value_or_zero}

module _ (b : ℕ) where
  pub a_decimal : 48 ≤ b → b < 58 → Some (b - 48) ≡ hex_value b
  unfolding hex_value
  a_decimal h k = rw (within_yes 48 57 b h (omega arith))

  pub a_capital : 65 ≤ b → b < 71 → Some (b - 55) ≡ hex_value b
  unfolding hex_value
  a_capital h k = rw (within_above 48 57 b (omega arith), within_yes 65 70 b h (omega arith))

  pub a_small : 97 ≤ b → b < 103 → Some (b - 87) ≡ hex_value b
  unfolding hex_value
  a_small h k = rw (within_above 48 57 b (omega arith), within_above 65 70 b (omega arith), within_yes 97 102 b h (omega arith))

  -- The library's test of a digit.
  pub digit_test : is_ascii_hexdigit b ≡ has_value (hex_value b)
  unfolding hex_value
  digit_test = go (in_range 48 57 b) (in_range 65 70 b) (in_range 97 102 b)
    where
      go : (p q r : Bool) → (p || q || r) ≡ has_value (cond p (Some (b - 48)) (cond q (Some (b - 55)) (cond r (Some (b - 87)) None)))
      go true q r = refl
      go false true r = refl
      go false false true = refl
      go false false false = refl

  -- A value is below 16.
  pub value_small : value_or_zero (hex_value b) ≤ 15
  unfolding hex_value
  value_small = go (in_range 48 57 b) (in_range 65 70 b) (in_range 97 102 b) refl refl refl
    where
      go : (p q r : Bool) → in_range 48 57 b ≡ p → in_range 65 70 b ≡ q → in_range 97 102 b ≡ r
          → value_or_zero (cond p (Some (b - 48)) (cond q (Some (b - 55)) (cond r (Some (b - 87)) None))) ≤ 15
      go true q r e f g = omega (arith, within_high 48 57 b e)
      go false true r e f g = omega (arith, within_high 65 70 b f)
      go false false true e f g = omega (arith, within_high 97 102 b g)
      go false false false e f g = omega arith
