-- Lemmas for `count_elements`.
use mir.Val.{bool_byte}
use mathlib.Core.Path.{◌≡◌, refl, ◌∙◌}
use mathlib.Core.Bool.{Bool, true, false, cond}
use mathlib.Core.List.{◌∷◌}
use Prim.Native.Nat.{ℕ, ◌+◌, ◌≤◌, ◌<◌}
use native.Mathlib.Numerals.{add-one}
use native.Mathlib.Omega.{arith}
use lib.ListN.{length, get_or, drop, drop_of_length-le}
use lib.Seq.{drop-cons}
use Rattle.text.specs.Text.{Text}
use Rattle.path_prefix.specs.Elements.{starts_element, count_elements}

-- A flag as a number.
one_of : (g : Bool) → bool_byte g ≡ cond g 1 0
one_of true = refl
one_of false = refl

module _ (s : Text) (i : ℕ) (f : Bool) where
  pub count_on : (n k : ℕ) (g : Bool) → i < length s → k ≡ bool_byte g → g ≡ starts_element f (get_or s i 0) (drop (i + 1) s)
      → count_elements f s ≡ n + count_elements f (drop i s) → count_elements f s ≡ n + k + count_elements f (drop (i + 1) s)
  unfolding count_elements
  count_on n k g l h b e =
      let d : drop i s ≡ get_or s i 0 ∷ drop (i + 1) s = rw add-one (drop-cons s i 0 l) in
      let q : count_elements f s ≡ n + (cond g 1 0 + count_elements f (drop (i + 1) s)) = rw b (rw d at e) in
      let o : k ≡ cond g 1 0 = h ∙ one_of g in
      omega arith

  pub count_end : (n : ℕ) → length s ≤ i → count_elements f s ≡ n + count_elements f (drop i s) → n ≡ count_elements f s
  unfolding count_elements
  count_end n l e = let q : count_elements f s ≡ n + 0 = rw (drop_of_length-le s l) at e in omega arith

pub one_more : (n k i : ℕ) (g : Bool) → k ≡ bool_byte g → n ≤ i → n + k ≤ i + 1
one_more n k i true h l = omega arith
one_more n k i false h l = omega arith

pub ruleset counts = (count_on, count_end, one_more)
