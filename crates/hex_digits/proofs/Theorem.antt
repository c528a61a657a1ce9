-- The theorems that decoding inverts encoding and that the case of the digits does not matter.
use Rattle.std.specs.Prelude.{Some}
use mathlib.Core.Path.{◌≡◌, refl, sym, ap, ◌∙◌}
use mathlib.Core.Bool.{Bool, true, false, cond}
use mathlib.Core.List.{[], ◌∷◌}
use Prim.Native.Nat.{ℕ, ◌+◌, ◌-◌, ◌*◌, ◌/◌, ◌%◌, ◌≤◌, ◌<◌}
use native.Mathlib.Omega.{arith}
use lib.Dec.{ltb}
use borrow.Author.Tests.{ltb-true, ltb-false}
use Rattle.text.specs.Range.{in_range}
use Rattle.text.proofs.RangeLaws.{within_low, within_high}
use Rattle.text.proofs.BoolLaws.{and_l, and_r}
use Rattle.hex_digits.specs.Hex.{hex_value, decode_hex, hex_digit, encode_hex, are_bytes, to_upper, HexRoundTrip, CaseInsensitive}
use Rattle.hex_digits.proofs.HexLaws.{a_decimal, a_capital, a_small}

-- An upper-case digit has the value it was written for.
capital_value : (v : ℕ) → v < 16 → hex_value (hex_digit v) ≡ Some v
capital_value v h = go (ltb v 10) refl
  where
    go : (t : Bool) → ltb v 10 ≡ t → hex_value (cond t (48 + v) (55 + v)) ≡ Some v
    go true e =
        let k : 48 + v - 48 ≡ v = omega arith in
        sym (a_decimal (48 + v) (omega arith) (omega (arith, ltb-true v 10 e))) ∙ ap Some k
    go false e =
        let k : 55 + v - 55 ≡ v = omega arith in
        sym (a_capital (55 + v) (omega (arith, ltb-false v 10 e)) (omega arith)) ∙ ap Some k

pub comes_back : HexRoundTrip
unfolding HexRoundTrip decode_hex encode_hex are_bytes
comes_back [] h = refl
comes_back (b ∷ t) h =
    let l : b < 256 = ltb-true b 256 (and_l (ltb b 256) (are_bytes t) h) in
    let k : 16 * (b / 16) + b % 16 ≡ b = omega arith in
    rw (capital_value (b / 16) (omega arith), capital_value (b % 16) (omega arith), comes_back t (and_r (ltb b 256) (are_bytes t) h), k)

-- A digit has the same value in upper case.
upper_value : (b : ℕ) → hex_value (to_upper b) ≡ hex_value b
upper_value b = go (in_range 97 102 b) refl
  where
    go : (t : Bool) → in_range 97 102 b ≡ t → hex_value (cond t (b - 32) b) ≡ hex_value b
    go true e =
        let l : 97 ≤ b = within_low 97 102 b e in
        let h : b ≤ 102 = within_high 97 102 b e in
        let k : b - 32 - 55 ≡ b - 87 = omega arith in
        sym (a_capital (b - 32) (omega arith) (omega arith)) ∙ ap Some k ∙ a_small b l (omega arith)
    go false e = refl

pub either_case : CaseInsensitive
unfolding CaseInsensitive decode_hex
either_case [] = refl
either_case (a ∷ []) = refl
either_case (a ∷ b ∷ s) = rw (upper_value a, upper_value b, either_case s)
