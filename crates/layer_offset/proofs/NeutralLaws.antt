-- 1 is neutral in a product, and 0 in a sum, except that -0 + 0 is +0.
use mathlib.Core.Path.{◌≡◌, refl, sym, ◌∙◌, subst}
use mathlib.Core.Logic.{◌⊎◌, inl, inr}
use mathlib.Core.Bool.{Bool, true, false, false≢true}
use Prim.Native.Nat.{ℕ, zero, suc, ◌*◌, ◌<◌}
use native.Mathlib.Nat.{add-zero, mul-one, mul-pos, one-mul, sub-zero, zero-add, zero-lt-suc, zero-mul, mul-zero}
use native.Mathlib.Omega.{arith}
use lib.Dec.{T, eqb, eqb→eq}
use lib.IntN.{ℤ, pos}
use lib.Ieee.{Float, nan, inf, fin, binary64, up, down, round, sum, add, mul, eq, fits}
use lib.Ieee.Fits.{and_l, and_r, up_pos, down_pos}
use borrow.Author.Tests.{le-ltb, lt-ltb}
use Rattle.layer_offset.specs.Number.{plus_zero, one, is_finite}
use Rattle.layer_offset.proofs.NumberLaws.{round_zero}
use Rattle.layer_offset.proofs.RoundLaws.{settled, rounded}

-- The float -0.0.
abbrev pub minus_zero : Float
minus_zero = fin true 0 (pos 0)

-- 1 × x is x.
pub one_times : (x : Float) → T (fits binary64 x) → mul binary64 one x ≡ x
unfolding mul
one_times nan p = refl
one_times (inf true) p = refl
one_times (inf false) p = refl
one_times (fin true m e) p = simp one-mul (rounded binary64 true m e p)
one_times (fin false m e) p = simp one-mul (rounded binary64 false m e p)

-- x × 1 is x.
pub times_one : (x : Float) → T (fits binary64 x) → mul binary64 x one ≡ x
unfolding mul
times_one nan p = refl
times_one (inf true) p = refl
times_one (inf false) p = refl
times_one (fin true m e) p = simp mul-one (rounded binary64 true m e p)
times_one (fin false m e) p = simp mul-one (rounded binary64 false m e p)

-- A number of magnitude zero is a zero.
only_zero : (s : Bool) (m : ℕ) (e : ℤ) → T (fits binary64 (fin s m e)) → m * up e ≡ 0 → fin s m e ≡ fin s 0 (pos 0)
unfolding fits
only_zero s m e p h = sym (settled binary64 s m e (fin s 0 (pos 0)) p tt (refl, simp (h, zero-mul)))

-- x + 0 and 0 + x, for signs and magnitudes; the sum differs from x only for -0.
sum_right : (s t : Bool) (a c : ℕ) → (s ≡ true → 0 < a) → sum binary64 s a t 0 c ≡ round binary64 s a c
unfolding sum
sum_right true true a c h = simp add-zero
sum_right true false a c h = simp (le-ltb a 0 (omega arith), lt-ltb 0 a (h refl), sub-zero)
sum_right false true a c h = simp (le-ltb a 0 (omega arith), sub-zero)
sum_right false false a c h = simp add-zero

sum_left : (t : Bool) (a c : ℕ) → (t ≡ true → 0 < a) → sum binary64 false 0 t a c ≡ round binary64 t a c
unfolding sum
sum_left true a c h = simp (lt-ltb 0 a (h refl), sub-zero)
sum_left false a c h = simp zero-add

size_above : (s : Bool) (m : ℕ) (e : ℤ) → T (fits binary64 (fin s m e)) → (fin s m e ≡ minus_zero → ⊥) → s ≡ true → 0 < m * up e
size_above true zero e p h k = absurd (h (only_zero true zero e p (zero-mul (up e))))
size_above true (suc m) e p h k = mul-pos (zero-lt-suc m) (up_pos e)
size_above false m e p h k = absurd (false≢true k)

-- x + 0, with a zero of either sign.
plus_zero_lem : (s : Bool) (x : Float) → T (fits binary64 x) → (x ≡ minus_zero → ⊥) → add binary64 x (fin s 0 (pos 0)) ≡ x
unfolding add
plus_zero_lem s nan p h = refl
plus_zero_lem s (inf t) p h = refl
plus_zero_lem s (fin t m e) p h = simp (zero-mul, mul-one) (sum_right t s (m * up e) (down e) (size_above t m e p h) ∙ rounded binary64 t m e p)

-- A number times 0 is a zero with the sign of the number.
times_zero : (s : Bool) (m : ℕ) (e : ℤ) → mul binary64 (fin s m e) plus_zero ≡ fin s 0 (pos 0)
unfolding mul
times_zero true m e = simp (zero-mul, mul-zero, mul-one) (round_zero true (down e) (down_pos e))
times_zero false m e = simp (zero-mul, mul-zero, mul-one) (round_zero false (down e) (down_pos e))

-- x + (y × 0), where y is finite.
pub plus_nothing : (x y : Float) → T (fits binary64 x) → (x ≡ minus_zero → ⊥) → is_finite y ≡ true → add binary64 x (mul binary64 y plus_zero) ≡ x
plus_nothing x nan p h f = absurd (false≢true f)
plus_nothing x (inf s) p h f = absurd (false≢true f)
plus_nothing x (fin s m e) p h f = rw (times_zero s m e) (plus_zero_lem s x p h)

-- 0 + x is x, unless x is -0.
pub zero_plus : (x : Float) → T (fits binary64 x) → (x ≡ minus_zero → ⊥) → add binary64 plus_zero x ≡ x
unfolding add
zero_plus nan p h = refl
zero_plus (inf t) p h = refl
zero_plus (fin t m e) p h = simp (zero-mul, mul-one, one-mul) (sum_left t (m * up e) (down e) (size_above t m e p h) ∙ rounded binary64 t m e p)

-- The magnitude of a number that equals another.
size_of : (s : Bool) (m : ℕ) (e : ℤ) (n : ℕ) → eq (fin s m e) (fin false n (pos 0)) ≡ true → m * up e * 1 ≡ n * 1 * down e
unfolding eq
size_of s m e n h = eqb→eq _ _ (and_l (eqb (m * up e * 1) (n * 1 * down e)) _ (subst T (sym h) tt))

-- The floats that equal 0.
pub equals_zero : (x : Float) → T (fits binary64 x) → eq x plus_zero ≡ true → (x ≡ plus_zero) ⊎ (x ≡ minus_zero)
unfolding eq
equals_zero nan p h = absurd (false≢true h)
equals_zero (inf s) p h = absurd (false≢true h)
equals_zero (fin true m e) p h = inr (only_zero true m e p (simp (mul-one, zero-mul) at (size_of true m e 0 h)))
equals_zero (fin false m e) p h = inl (only_zero false m e p (simp (mul-one, zero-mul) at (size_of false m e 0 h)))

-- The only float that equals 1.
pub equals_one : (x : Float) → T (fits binary64 x) → eq x one ≡ true → x ≡ one
unfolding eq fits
equals_one nan p h = absurd (false≢true h)
equals_one (inf s) p h = absurd (false≢true h)
equals_one (fin true m e) p h =
    let none = eqb→eq (m * up e * 1) 0 (and_r (eqb (m * up e * 1) (1 * 1 * down e)) _ (subst T (sym h) tt)) in
    absurd (omega (arith, down_pos e, size_of true m e 1 h))
equals_one (fin false m e) p h = sym (settled binary64 false m e one p tt (refl, sym (size_of false m e 1 h)))
