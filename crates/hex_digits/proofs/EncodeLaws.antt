-- Lemmas about the digits of bytes by index, and for the branches of `encode`.
use mathlib.Core.Path.{◌≡◌, refl, ◌∙◌}
use mathlib.Core.List.{[], ◌∷◌}
use Prim.Native.Nat.{ℕ, zero, suc, ◌+◌, ◌-◌, ◌*◌, ◌/◌, ◌%◌, ◌≤◌, ◌<◌}
use native.Mathlib.Omega.{arith}
use lib.ListN.{length, get_or, set}
use lib.Seq.{paste}
use Rattle.text.specs.Text.{Text, written_if_fits}
use Rattle.text.proofs.WriteLaws.{put_begin, put_on, put_length, put_end, put_outside, put_over}
use Rattle.hex_digits.specs.Hex.{hex_digit, encode_hex}

-- Lemmas for `encode`.
pub encoded_length : (t : Text) → length (encode_hex t) ≡ 2 * length t
unfolding encode_hex
encoded_length [] = refl
encoded_length (b ∷ t) = omega (arith, encoded_length t)

encoded_high : (t : Text) (i : ℕ) → i < length t → get_or (encode_hex t) (2 * i) 0 ≡ hex_digit (get_or t i 0 / 16)
unfolding encode_hex
encoded_high [] i h = absurd (omega arith)
encoded_high (b ∷ t) zero h = refl
encoded_high (b ∷ t) (suc i) h =
    let k : 2 * suc i ≡ suc (suc (2 * i)) = omega arith in
    rw k (encoded_high t i (omega arith))

encoded_low : (t : Text) (i : ℕ) → i < length t → get_or (encode_hex t) (2 * i + 1) 0 ≡ hex_digit (get_or t i 0 % 16)
unfolding encode_hex
encoded_low [] i h = absurd (omega arith)
encoded_low (b ∷ t) zero h = refl
encoded_low (b ∷ t) (suc i) h =
    let k : 2 * suc i + 1 ≡ suc (suc (2 * i + 1)) = omega arith in
    rw k (encoded_low t i (omega arith))

module _ (t out : Text) (at : ℕ) where
  pub encode_outside : length out < at → out ≡ written_if_fits at (encode_hex t) out
  encode_outside h = put_outside out (encode_hex t) at h

  module _ (h : at ≤ length out) where
    pub encode_over : (length out - at) / 2 < length t → out ≡ written_if_fits at (encode_hex t) out
    encode_over k = put_over out (encode_hex t) at h (omega (arith, encoded_length t))

    module _ (k : length t ≤ (length out - at) / 2) (mem : Text) (i : ℕ) (e : mem ≡ paste out at (encode_hex t) (2 * i)) where
      pub encode_on : (mem' : Text) → i < length t → mem' ≡ set (set mem (at + 2 * i) (hex_digit (get_or t i 0 / 16))) (at + 2 * i + 1) (hex_digit (get_or t i 0 % 16))
          → mem' ≡ paste out at (encode_hex t) (2 * (i + 1))
      encode_on mem' l w =
          let n = encoded_length t in
          let high : set mem (at + 2 * i) (hex_digit (get_or t i 0 / 16)) ≡ paste out at (encode_hex t) (2 * i + 1) =
          rw (← encoded_high t i l) (put_on out (encode_hex t) mem at (2 * i) h (omega arith) (omega arith) e) in
          let low = put_on out (encode_hex t) (set mem (at + 2 * i) (hex_digit (get_or t i 0 / 16))) at (2 * i + 1) h (omega arith) (omega arith) high in
          let p : at + (2 * i + 1) ≡ at + 2 * i + 1 = omega arith in
          let q : 2 * i + 1 + 1 ≡ 2 * (i + 1) = omega arith in
          w ∙ rw (← encoded_low t i l) (rw (p, q) at low)

      pub encode_end : length t ≤ i → i ≤ length t → mem ≡ written_if_fits at (encode_hex t) out
      encode_end l m =
          let n = encoded_length t in
          put_end out (encode_hex t) mem at (2 * i) h (omega arith) (omega arith) (omega arith) e

pub ruleset encoding = (encode_outside, encode_over, encode_on, encode_end, put_begin, put_length)
