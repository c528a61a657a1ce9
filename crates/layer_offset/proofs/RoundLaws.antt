-- Rounding a number that the format holds yields that number.
use mathlib.Core.Path.{◌≡◌, sym, ap, ◌∙◌}
use mathlib.Core.Bool.{Bool, ◌&&◌}
use Prim.Native.Nat.{ℕ, zero, suc, ◌+◌, ◌-◌, ◌*◌, ◌%◌, ◌^◌, ◌≤◌, ◌<◌}
use native.Mathlib.Nat.{le_of_suc-le-suc, lt_of_not-le, not-le_of_lt, lt_of_mul-lt-mul_right, mul_assoc, mul_comm, mul-lt-mul_of_pos_right, mul-one, mul_right_comm, one-mul, zero-mul}
use lib.Dec.{T, eqb, leb, ltb, leb→le, ltb→lt}
use lib.IntN.{ℤ, pos, negsuc}
use lib.Pow.{pow-add, pow-lt, pow_pos}
use lib.Ieee.{Float, nan, inf, fin, Format, prec, emax, low, up, down, round, fits, of_bits, to_bits}
use lib.Ieee.Bits.{of_bits-to_bits}
use lib.Ieee.Digits.{back}
use lib.Ieee.Exact.{HasValue, round_exact}
use lib.Ieee.Fits.{and_l, and_r, down_pos, round-fits}
use lib.Ieee.Nearest.{div_same}

exponents : (i j : ℕ) → 2 ^ i ≤ 2 ^ j → i ≤ j
exponents i j h = le_of_suc-le-suc (lt_of_not-le (λ k. not-le_of_lt (pow-lt k) h))

module _ (f : Format) where
  -- A bit pattern is determined by the sign and the magnitude.
  same_pattern : (s : Bool) (m : ℕ) (e : ℤ) (t : Bool) (n : ℕ) (g : ℤ) → HasValue (fin t n g) s (m * up e) (down e) → to_bits f (fin t n g) ≡ to_bits f (fin s m e)
  unfolding to_bits
  same_pattern s m e t n g v =
      let l = 2 ^ low f in
      let cross : n * up g * l * down e ≡ m * up e * l * down g =
      mul_right_comm (n * up g) l (down e) ∙ ap (λ (x : ℕ). x * l) v.1 ∙ mul_right_comm (m * up e) (down g) l in
      rw (v.0, div_same (n * up g * l) (down g) (m * up e * l) (down e) (down_pos g) (down_pos e) cross)

  -- So two floats of the format with the same sign and magnitude are equal.
  pub settled : (s : Bool) (m : ℕ) (e : ℤ) (y : Float) → T (fits f (fin s m e)) → T (fits f y) → HasValue y s (m * up e) (down e) → y ≡ fin s m e
  settled s m e nan p q v = absurd v
  settled s m e (inf t) p q v = absurd v
  settled s m e (fin t n g) p q v = sym (of_bits-to_bits f (fin t n g) q) ∙ ap (of_bits f) (same_pattern s m e t n g v) ∙ of_bits-to_bits f (fin s m e) p

  -- 2 ^ e is an integer multiple of the smallest positive value of the format.
  steps : (e : ℤ) → down e ≤ 2 ^ low f → (j : ℕ) × (up e * 2 ^ low f ≡ 2 ^ j * down e)
  steps (pos k) h = (k + low f, sym (pow-add 2 k (low f)) ∙ sym (mul-one _))
  steps (negsuc k) h =
      let d = low f - suc k in
      (d, one-mul _ ∙ ap (λ (x : ℕ). 2 ^ x) (sym (back (low f) (suc k) (exponents (suc k) (low f) h))) ∙ pow-add 2 d (suc k))

  -- What `fits` implies for a number other than zero.
  held : (s : Bool) (m : ℕ) (e : ℤ) → T (fits f (fin s (suc m) e)) → (suc m < 2 ^ prec f) × (down e ≤ 2 ^ low f) × (suc m * up e < 2 ^ suc (emax f) * down e)
  unfolding fits
  held s m e p =
      let a = eqb (suc m % 2) 1 in
      let b = ltb (suc m) (2 ^ prec f) in
      let c = leb (down e) (2 ^ low f) in
      let d = ltb (suc m * up e) (2 ^ suc (emax f) * down e) in
      let abc = and_l (a && b && c) d p in (
        ltb→lt _ _ (and_r a b (and_l (a && b) c abc)),
        leb→le _ _ (and_r (a && b) c abc),
        ltb→lt _ _ (and_r (a && b && c) d p),
      )

  -- A number that the format holds is the rounding of its own magnitude.
  pub rounded : (s : Bool) (m : ℕ) (e : ℤ) → T (fits f (fin s m e)) → round f s (m * up e) (down e) ≡ fin s m e
  rounded s zero e p =
      settled s zero e _ p (round-fits f s (zero * up e) (down e))
      (round_exact f s (zero * up e) (down e) 0 0 (down_pos e) (pow_pos (prec f)) (pow_pos _) (simp zero-mul))
  rounded s (suc m) e p =
      let h = held s m e p in
      let k = steps e h.1 in
      let l = 2 ^ low f in
      let exact : suc m * up e * l ≡ suc m * 2 ^ k.0 * down e = mul_assoc (suc m) (up e) l ∙ ap (λ (x : ℕ). suc m * x) k.1 ∙ sym (mul_assoc (suc m) (2 ^ k.0) (down e)) in
      let room : 2 ^ suc (emax f) * down e * l ≡ 2 ^ (low f + suc (emax f)) * down e =
      mul_right_comm _ (down e) l ∙ ap (λ (x : ℕ). x * down e) (mul_comm _ l ∙ sym (pow-add 2 (low f) (suc (emax f)))) in
      let below : suc m * 2 ^ k.0 < 2 ^ (low f + suc (emax f)) =
      lt_of_mul-lt-mul_right (down e) (rw (exact, room) at (mul-lt-mul_of_pos_right h.2 (pow_pos (low f)))) in
      settled s (suc m) e _ p (round-fits f s (suc m * up e) (down e))
      (round_exact f s (suc m * up e) (down e) (suc m) k.0 (down_pos e) h.0 below exact)
