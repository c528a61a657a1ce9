-- Lemmas about conjunction, negation, and tests computed over a range of numbers.
use mathlib.Core.Path.{◌≡◌, refl, sym, ◌∙◌}
use mathlib.Core.Bool.{Bool, true, false, not, ◌&&◌, ◌||◌, false≢true}
use Prim.Native.Nat.{ℕ, zero, suc, ◌<◌}
use native.Mathlib.Omega.{arith}
use native.Mathlib.Decide.{ℕ_discrete}
use lib.Dec.{eqb}
use borrow.Author.Tests.{eq-eqb}

pub and_l : (a b : Bool) → (a && b) ≡ true → a ≡ true
and_l true b e = refl
and_l false b e = e

pub and_r : (a b : Bool) → (a && b) ≡ true → b ≡ true
and_r true b e = e
and_r false b e = absurd (false≢true e)

pub and_no : (a : Bool) → (a && false) ≡ false
and_no true = refl
and_no false = refl

pub and_yes : (a : Bool) → (a && true) ≡ a
and_yes true = refl
and_yes false = refl

pub and_assoc : (a b c : Bool) → (a && b && c) ≡ (a && (b && c))
and_assoc true b c = refl
and_assoc false b c = refl

pub or_right : (a b : Bool) → b ≡ true → (a || b) ≡ true
or_right true b e = refl
or_right false b e = e

pub or_false : (a : Bool) → (a || false) ≡ a
or_false true = refl
or_false false = refl

pub not_true : (a : Bool) → not a ≡ true → a ≡ false
not_true true e = sym e
not_true false e = refl

pub not_false : (a : Bool) → not a ≡ false → a ≡ true
not_false true e = refl
not_false false e = sym e

pub eqb_self : (a : ℕ) → eqb a a ≡ true
eqb_self a = eq-eqb a a refl

-- If the result r of a test is v, and r was found to be t, then v is t.
pub told : {r v t : Bool} → r ≡ v → r ≡ t → v ≡ t
told h k = sym h ∙ k

pub known_false : {r v : Bool} → r ≡ v → not r ≡ true → v ≡ false
known_false {r} h k = sym h ∙ not_true r k

pub known_true : {r v : Bool} → r ≡ v → not r ≡ false → v ≡ true
known_true {r} {v} h k = go r h k
  where
    go : (b : Bool) → b ≡ v → not b ≡ false → v ≡ true
    go true h k = sym h
    go false h k = absurd (false≢true (sym k))

-- A test holds at each number below n; antt computes this.
abbrev pub up_to : (ℕ → Bool) → ℕ → Bool
up_to f zero = true
up_to f (suc n) = f n && up_to f n

-- What `up_to` implies for each number.
pub at_each : (f : ℕ → Bool) (n k : ℕ) → up_to f n ≡ true → k < n → f k ≡ true
at_each f zero k e h = absurd (omega arith)
at_each f (suc n) k e h =
    elim (ℕ_discrete k n) [ yes q ↦ rw q (and_l (f n) (up_to f n) e) | no d ↦ at_each f n k (and_r (f n) (up_to f n) e) (omega arith) ]
