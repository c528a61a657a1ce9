-- Laws about the separator, and the length of a join.
use mathlib.Core.Path.{◌≡◌}
use mathlib.Core.Bool.{Bool, true, false, not, cond, ◌&&◌}
use mathlib.Core.List.{[], ◌∷◌}
use Prim.Native.Nat.{ℕ, ◌+◌, ◌≤◌}
use native.Mathlib.Omega.{arith}
use lib.Dec.{eqb}
use lib.ListN.{length, length-append}
use lib.Seq.{length-take-le}
use Rattle.text.specs.Text.{Text}
use Rattle.path_grammar.specs.Legal.{is_root}
use Rattle.path_join.specs.Join.{is_child, ends_with_separator, separator_len, separator, body, join}

-- Two clauses of the definition: a remainder after `/`, and a remainder that is a property or a selection.
module _ (s t : Text) (a : ℕ) (r : Text) where
  pub separator_after_root : is_root s ≡ true → separator_len s t (a ∷ r) ≡ cond (is_root t) 0 1
  unfolding separator_len
  separator_after_root h = rw h

  pub separator_before_suffix : is_root s ≡ false → is_child s a ≡ false → separator_len s t (a ∷ r) ≡ 0
  unfolding separator_len
  separator_before_suffix h k = rw (h, k)

-- The separator has at most one byte, so its text is as long as the number says.
pub separator_short_lem : (s t r : Text) → separator_len s t r ≤ 1
unfolding separator_len
separator_short_lem s t [] = omega arith
separator_short_lem s t (a ∷ r) = go (is_root s) (is_root t) (not (is_child s a)) (ends_with_separator t)
  where
    zero-or-one : (b : Bool) → cond b 0 1 ≤ 1
    zero-or-one true = omega arith
    zero-or-one false = omega arith

    go : (b c d e : Bool) → cond b (cond c 0 1) (cond d 0 (cond e 0 1)) ≤ 1
    go true c d e = zero-or-one c
    go false c true e = omega arith
    go false c false e = zero-or-one e

pub separator_length : (s t r : Text) → length (separator s t r) ≡ separator_len s t r
unfolding separator
separator_length s t r = length-take-le (separator_len s t r) (47 ∷ []) (separator_short_lem s t r)

pub join_length : (s t r : Text) → length (join s t r) ≡ length t + (separator_len s t r + length (body s r))
unfolding join
join_length s t r = simp (length-append, separator_length)

pub body_short : (s r : Text) → length (body s r) ≤ length r
unfolding body
body_short s [] = omega arith
body_short s (a ∷ r) = go (not (is_root s) && eqb a 47)
  where
    go : (b : Bool) → length (cond b r (a ∷ r)) ≤ length (a ∷ r)
    go true = omega arith
    go false = omega arith
