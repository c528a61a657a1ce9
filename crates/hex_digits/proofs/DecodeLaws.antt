-- Lemmas about decoding, two digits at a time, and for the branches of `all_digits` and `decode`.
use Rattle.std.specs.Prelude.{Ok, Err, Option, Some, None}
use mathlib.Core.Path.{◌≡◌, refl, sym, ap}
use mathlib.Core.Logic.{◌≢◌}
use mathlib.Core.Bool.{Bool, true, false, not, ◌&&◌, true≢false, false≢true}
use mathlib.Core.List.{[], ◌∷◌}
use Prim.Native.Nat.{ℕ, zero, suc, ◌+◌, ◌*◌, ◌/◌, ◌≤◌, ◌<◌}
use native.Mathlib.Nat.{zero-add}
use native.Mathlib.Omega.{arith}
use lib.ListN.{length, get_or, set}
use lib.Seq.{paste}
use borrow.Author.Tests.{le-leb, lt-leb}
use Rattle.text.specs.Text.{Text}
use Rattle.text.proofs.BoolLaws.{known_true, known_false}
use Rattle.text.proofs.WriteLaws.{put_begin, put_on, put_length, put_end, put_over}
use Rattle.hex_digits.specs.Hex.{hex_value, cons_byte, decode_hex}
use Rattle.hex_digits.specs.Calls.{has_value, value_or_zero, all_digits, decode_reply, decode_buffer}
use Rattle.hex_digits.proofs.HexLaws.{digit_test}
use Rattle.std.specs.List.{list_all}
use Rattle.std.specs.Char.{is_ascii_hexdigit}
use Rattle.hex_digits.specs.declared.DecodeError.TheVariants.{Malformed, BufferTooShort}

-- Lemmas for `all_digits`.
pub digits_all : (s : Text) → list_all is_ascii_hexdigit s ≡ all_digits s
unfolding all_digits
digits_all [] = refl
digits_all (b ∷ s) = rw (digit_test b, digits_all s)

-- The bytes of a text of digits, where a byte that is not a digit counts as 0.
abbrev pub values : Text → Text
values [] = []
values (a ∷ []) = []
values (a ∷ b ∷ s) = (16 * value_or_zero (hex_value a) + value_or_zero (hex_value b)) ∷ values s

values_length : (s : Text) (n : ℕ) → length s ≡ 2 * n → length (values s) ≡ n
values_length [] n e = omega arith
values_length (a ∷ []) n e = absurd (omega arith)
values_length (a ∷ b ∷ s) zero e = absurd (omega arith)
values_length (a ∷ b ∷ s) (suc n) e = ap suc (values_length s n (omega arith))

values_at : (s : Text) (i : ℕ) → 2 * i + 1 < length s → get_or (values s) i 0 ≡ 16 * value_or_zero (hex_value (get_or s (2 * i) 0)) + value_or_zero (hex_value (get_or s (2 * i + 1) 0))
values_at [] i h = absurd (omega arith)
values_at (a ∷ []) i h = absurd (omega arith)
values_at (a ∷ b ∷ s) zero h = refl
values_at (a ∷ b ∷ s) (suc i) h =
    let k : 2 * suc i ≡ suc (suc (2 * i)) = omega arith in
    let l : 2 * suc i + 1 ≡ suc (suc (2 * i + 1)) = omega arith in
    rw (l, k) (values_at s i (omega arith))

-- The text decodes to these bytes, unless its number of digits is odd or one of its bytes is not a digit.
odd_none : (s : Text) → ((n : ℕ) → length s ≢ 2 * n) → None ≡ decode_hex s
unfolding decode_hex
odd_none [] d = absurd (d 0 refl)
odd_none (a ∷ []) d = refl
odd_none (a ∷ b ∷ s) d = rw (← odd_none s (λ n e. d (suc n) (omega arith))) (sym (cons-none (hex_value a) (hex_value b)))
  where
    cons-none : (p q : Option ℕ) → cons_byte p q None ≡ None
    cons-none None q = refl
    cons-none (Some h) None = refl
    cons-none (Some h) (Some l) = refl

other_none : (s : Text) → all_digits s ≡ false → None ≡ decode_hex s
unfolding decode_hex all_digits
other_none [] e = absurd (true≢false e)
other_none (a ∷ []) e = refl
other_none (a ∷ b ∷ s) e = go (hex_value a) (hex_value b) e (other_none s)
  where
    go : (p q : Option ℕ) → (has_value p && (has_value q && all_digits s)) ≡ false → (all_digits s ≡ false → None ≡ decode_hex s) → None ≡ cons_byte p q (decode_hex s)
    go None q k ih = refl
    go (Some h) None k ih = refl
    go (Some h) (Some l) k ih = rw (← ih k)

all_some : (s : Text) (n : ℕ) → length s ≡ 2 * n → all_digits s ≡ true → Some (values s) ≡ decode_hex s
unfolding decode_hex all_digits
all_some [] n l e = refl
all_some (a ∷ []) n l e = absurd (omega arith)
all_some (a ∷ b ∷ s) zero l e = absurd (omega arith)
all_some (a ∷ b ∷ s) (suc n) l e = go (hex_value a) (hex_value b) e (all_some s n (omega arith))
  where
    go : (p q : Option ℕ) → (has_value p && (has_value q && all_digits s)) ≡ true → (all_digits s ≡ true → Some (values s) ≡ decode_hex s)
        → Some ((16 * value_or_zero p + value_or_zero q) ∷ values s) ≡ cons_byte p q (decode_hex s)
    go None q k ih = absurd (false≢true k)
    go (Some h) None k ih = absurd (false≢true k)
    go (Some h) (Some l) k ih = rw (← ih k)

-- Lemmas for `decode`.
module _ (s out : Text) where
  odd_half : length s ≢ 2 * (length s / 2) → None ≡ decode_hex s
  odd_half d = odd_none s (λ n e. d (omega arith))

  pub bad_odd : length s ≢ 2 * (length s / 2) → (Err Malformed) ≡ decode_reply (decode_hex s) (length out)
  bad_odd d = rw (← odd_half d)

  pub kept_odd : length s ≢ 2 * (length s / 2) → out ≡ decode_buffer (decode_hex s) out
  kept_odd d = rw (← odd_half d)

  module _ (b : Bool) (f : b ≡ all_digits s) where
    pub bad_other : not b ≡ true → (Err Malformed) ≡ decode_reply (decode_hex s) (length out)
    bad_other t = rw (← other_none s (known_false f t))

    pub kept_other : not b ≡ true → out ≡ decode_buffer (decode_hex s) out
    kept_other t = rw (← other_none s (known_false f t))

    module _ (h : length s ≡ 2 * (length s / 2)) (t : not b ≡ false) where
      half : length (values s) ≡ length s / 2
      half = values_length s (length s / 2) h

      whole : Some (values s) ≡ decode_hex s
      whole = all_some s (length s / 2) h (known_true f t)

      pub over_short : length out < length s / 2 → (Err BufferTooShort) ≡ decode_reply (decode_hex s) (length out)
      over_short k = rw (← whole, half, lt-leb (length s / 2) (length out) k)

      pub kept_short : length out < length s / 2 → out ≡ decode_buffer (decode_hex s) out
      kept_short k = rw (← whole) (put_over out (values s) 0 (omega arith) (omega (arith, half)))

      pub bytes_all : length s / 2 ≤ length out → Ok (length s / 2) ≡ decode_reply (decode_hex s) (length out)
      bytes_all k = rw (← whole, half, le-leb (length s / 2) (length out) k)

      pub written_all : (mem : Text) (i : ℕ) → length s / 2 ≤ length out → length s / 2 ≤ i → i ≤ length s / 2 → mem ≡ paste out 0 (values s) i
          → mem ≡ decode_buffer (decode_hex s) out
      written_all mem i k l m e =
          rw (← whole) (put_end out (values s) mem 0 i (omega arith) (omega (arith, half)) (omega (arith, half)) (omega (arith, half)) e)

  pub written_on : (mem : Text) (i v : ℕ) → length s ≡ 2 * (length s / 2) → length s / 2 ≤ length out → i < length s / 2 → mem ≡ paste out 0 (values s) i
      → v ≡ 16 * value_or_zero (hex_value (get_or s (2 * i) 0)) + value_or_zero (hex_value (get_or s (2 * i + 1) 0)) → set mem i v ≡ paste out 0 (values s) (i + 1)
  written_on mem i v h k l e f =
      let n : length (values s) ≡ length s / 2 = values_length s (length s / 2) h in
      rw (f, ← values_at s i (omega arith)) (rw (zero-add i) at (put_on out (values s) mem 0 i (omega arith) (omega arith) (omega arith) e))

pub ruleset decoding = (bad_odd, kept_odd, bad_other, kept_other, over_short, kept_short, bytes_all, written_all, written_on, put_begin, put_length)

-- Two digits encode one byte.
pub decoded_length : (s x : Text) → decode_hex s ≡ Some x → length s ≡ 2 * length x
unfolding decode_hex
decoded_length [] x e = let z : [] ≡ x = cc in rw (← z) refl
decoded_length (a ∷ []) x e = absurd (let z : ◌≡◌ {A = ℕ} 0 1 = cc in omega arith)
decoded_length (a ∷ b ∷ s) x e = go (hex_value a) (hex_value b) (decode_hex s) (decoded_length s) e
  where
    go : (h l : Option ℕ) (r : Option Text) → ((y : Text) → r ≡ Some y → length s ≡ 2 * length y) → cons_byte h l r ≡ Some x → suc (suc (length s)) ≡ 2 * length x
    go None l r ih e = absurd (let z : ◌≡◌ {A = ℕ} 0 1 = cc in omega arith)
    go (Some h) None r ih e = absurd (let z : ◌≡◌ {A = ℕ} 0 1 = cc in omega arith)
    go (Some h) (Some l) None ih e = absurd (let z : ◌≡◌ {A = ℕ} 0 1 = cc in omega arith)
    go (Some h) (Some l) (Some t) ih e = let z : (16 * h + l) ∷ t ≡ x = cc in rw (← z) (omega (arith, ih t refl))
