-- Tables as functions of a byte: a match whose arms are single values returns what a function does, if it does so at each value of each arm, and the
-- function has one value at all other bytes.
use mathlib.Core.Path.{◌≡◌, refl, sym, ◌∙◌}
use mathlib.Core.Bool.{Bool, true, false, ◌&&◌, ◌||◌, false≢true}
use mathlib.Core.List.{List, [], ◌∷◌}
use mathlib.Core.Logic.{inl, inr}
use Prim.Native.Nat.{ℕ, ◌/◌, ◌^◌, ◌<◌}
use lib.Dec.{eqb}
use borrow.Author.Tests.{eqb-true}
use types.Run.{OneOf}
use Rattle.text.proofs.BoolLaws.{and_l, and_r, or_false, up_to, at_each}

-- The function f has the same result x at each value of an arm.
abbrev pub same : (ℕ → ℕ) → ℕ → List ℕ → Bool
same f x [] = true
same f x (k ∷ ks) = eqb x (f k) && same f x ks

pub arm : (f : ℕ → ℕ) (x : ℕ) (ks : List ℕ) (a : ℕ) → OneOf ks a → same f x ks ≡ true → x ≡ f a
arm f x [] a w t = absurd w
arm f x (k ∷ []) a w t = rw w (eqb-true x (f k) (and_l (eqb x (f k)) true t))
arm f x (k ∷ l ∷ ks) a (inl e) t = rw e (eqb-true x (f k) (and_l (eqb x (f k)) (same f x (l ∷ ks)) t))
arm f x (k ∷ l ∷ ks) a (inr w) t = arm f x (l ∷ ks) a w (and_r (eqb x (f k)) (same f x (l ∷ ks)) t)

-- What the default arm of a match assumes: the number is none of the values of each arm, the last arm first.
abbrev pub Rest : List (List ℕ) → ℕ → Type 0
Rest [] a = Unit {0}
Rest (ks ∷ arms) a = Rest arms a × (OneOf ks a → ⊥)

abbrev one_of : List ℕ → ℕ → Bool
one_of [] a = false
one_of (k ∷ ks) a = eqb a k || one_of ks a

one : (ks : List ℕ) (a : ℕ) → one_of ks a ≡ true → OneOf ks a
one [] a e = absurd (false≢true e)
one (k ∷ []) a e = eqb-true a k (sym (or_false (eqb a k)) ∙ e)
one (k ∷ l ∷ ks) a e = go (eqb a k) refl (one (l ∷ ks) a)
  where
    go : (b : Bool) → eqb a k ≡ b → (one_of (l ∷ ks) a ≡ true → OneOf (l ∷ ks) a) → OneOf (k ∷ l ∷ ks) a
    go true h f = inl (eqb-true a k h)
    go false h f = inr (f (rw h at e))

abbrev in_arms : List (List ℕ) → ℕ → Bool
in_arms [] a = false
in_arms (ks ∷ arms) a = one_of ks a || in_arms arms a

none_of : (arms : List (List ℕ)) (a : ℕ) → Rest arms a → in_arms arms a ≡ false
none_of [] a w = refl
none_of (ks ∷ arms) a w = rw (not-one (one_of ks a) refl) (none_of arms a w.0)
  where
    not-one : (b : Bool) → one_of ks a ≡ b → one_of ks a ≡ false
    not-one true h = absurd (w.1 (one ks a h))
    not-one false h = h

-- The number a is a value of some arm, or f returns for it the value x of the default arm.
abbrev pub listed : (ℕ → ℕ) → ℕ → List (List ℕ) → ℕ → Bool
listed f x arms a = in_arms arms a || eqb (f a) x

pub others : (f : ℕ → ℕ) (x : ℕ) (arms : List (List ℕ)) (a : ℕ) → up_to (listed f x arms) 256 ≡ true → a < 256 → Rest arms a → x ≡ f a
others f x arms a t h w = sym (eqb-true (f a) x (rw (none_of arms a w) at (at_each (listed f x arms) 256 a t h)))

-- The row of a table, shifted.
pub shifted : (x y s : ℕ) → x ≡ y → x / 2 ^ s ≡ y / 2 ^ s
shifted x y s e = rw e
