-- Lemmas for the branches of the functions that look for the last part.
use Rattle.std.specs.Prelude.{Some, None}
use mathlib.Core.Path.{◌≡◌, refl, sym, ap, ◌∙◌}
use mathlib.Core.Bool.{Bool, true, false, not}
use mathlib.Core.List.{[], ◌∷◌}
use Prim.Native.Nat.{ℕ, max, zero, suc, ◌+◌, ◌-◌, ◌≤◌, ◌<◌}
use native.Mathlib.Nat.{add-zero}
use native.Mathlib.Numerals.{add-one}
use native.Mathlib.Omega.{arith}
use lib.Dec.{ltb}
use lib.ListN.{length, get_or, drop, drop_of_length-le}
use lib.Seq.{drop-cons, drop-length, drop-nil}
use borrow.Author.Tests.{ltb-true, ltb-false}
use Rattle.text.specs.Text.{Text, is_nil, ends_with_byte, lacks_byte}
use Rattle.text.proofs.BoolLaws.{told, known_false, known_true, and_no, and_yes}
use Rattle.path_grammar.specs.Own.{own_part, has_property}
use Rattle.path_grammar.proofs.OwnLaws.{target_nil, property_scan, own_all}
use Rattle.path_parts.specs.Parent.{starts_part, starts_name_after, part_offset, last_part_start, parent_end, own_parent_len, parent_len, is_property, prim_len}
use Rattle.path_parts.proofs.LastLaws.{no_part}

-- Lemmas for `starts_part`.
pub more_after : (p : Text) (i : ℕ) → ltb i (length p) ≡ not (is_nil (drop i p))
more_after p i = go (ltb i (length p)) refl
  where
    go : (t : Bool) → ltb i (length p) ≡ t → t ≡ not (is_nil (drop i p))
    go true h = rw (drop-cons p i 0 (ltb-true i (length p) h))
    go false h = rw (drop_of_length-le p (ltb-false i (length p) h))

-- Lemmas for `own_parent_len`. The loop invariant: no part begins after index i.
pub last_after : (p : Text) (i k : ℕ) → last_part_start (drop i p) ≡ Some k → last_part_start p ≡ Some (k + i)
unfolding last_part_start
last_after [] i k e = absurd (no_part (rw (drop-nil i) at e))
last_after (a ∷ p) zero k e = rw (add-zero k) e
last_after (a ∷ p) (suc i) k e = let q : k + suc i ≡ suc (k + i) = omega arith in rw (last_after p i k e, q)

module _ (p : Text) (i : ℕ) (l : 0 < i) (h : i ≤ length p) (e : last_part_start (drop i p) ≡ None) where
  last_here : last_part_start (drop (i - 1) p) ≡ part_offset (get_or p (i - 1) 0) (drop (i - 1 + 1) p)
  unfolding last_part_start
  last_here =
      let k : suc (i - 1) ≡ i = omega arith in
      ap last_part_start (rw k at (drop-cons p (i - 1) 0 (omega arith))) ∙ rw (add-one, k, e)

  module _ (b : Bool) (f : b ≡ starts_part (get_or p (i - 1) 0) (drop (i - 1 + 1) p)) where
    last_at : b ≡ true → last_part_start p ≡ Some (i - 1)
    unfolding part_offset
    last_at t =
        let k : 0 + (i - 1) ≡ i - 1 = omega arith in
        rw k at (last_after p (i - 1) 0 (last_here ∙ rw (told f t)))

    pub parent_at : (n : ℕ) → b ≡ true → n ≡ max (i - 1) 1 → n ≡ own_parent_len p
    unfolding own_parent_len
    parent_at n t m = rw (m, last_at t) (go (i - 1))
      where
        go : (k : ℕ) → max k 1 ≡ parent_end (Some k)
        go zero = refl
        go (suc k) = omega arith

    module _ (c : Bool) (g : c ≡ starts_name_after (get_or p (i - 1) 0) (drop (i - 1 + 1) p)) where
      pub parent_after : b ≡ false → c ≡ true → i - 1 + 1 ≡ own_parent_len p
      unfolding own_parent_len part_offset
      parent_after t u =
          let k : 1 + (i - 1) ≡ suc (i - 1) = omega arith in
          rw (rw k at (last_after p (i - 1) 1 (last_here ∙ rw (told f t, told g u))), add-one)

      pub parent_on : b ≡ false → c ≡ false → last_part_start (drop (i - 1) p) ≡ None
      unfolding part_offset
      parent_on t u = last_here ∙ rw (told f t, told g u)

pub parent_begin : (p : Text) → last_part_start (drop (length p) p) ≡ None
unfolding last_part_start
parent_begin p = rw (drop-length p)

pub parent_end_lem : (p : Text) (i : ℕ) → i ≤ 0 → last_part_start (drop i p) ≡ None → 0 ≡ own_parent_len p
unfolding own_parent_len
parent_end_lem p i h e = let k : i ≡ 0 = omega arith in rw (rw k at e)

pub ruleset parents = (parent_at, parent_after, parent_on, parent_begin, parent_end_lem)

-- Lemmas for `parent_len`.
module _ (p : Text) (b : Bool) (f : b ≡ ends_with_byte 93 p) where
  pub parent_of_target : (o : Text) → o ≡ own_part p → b ≡ true → length o ≡ parent_len p
  unfolding parent_len
  parent_of_target o e t = rw (told f t, e)

  pub parent_of_own : (n : ℕ) → b ≡ false → n ≡ own_parent_len p → n ≡ parent_len p
  unfolding parent_len
  parent_of_own n t e = rw (told f t) e

pub ruleset parent_cases = (parent_of_target, parent_of_own)

-- Lemmas for `is_property`.
module _ (p : Text) (b : Bool) (f : b ≡ lacks_byte 91 p) where
  pub property_none : b ≡ false → false ≡ is_property p
  unfolding is_property
  property_none t = rw (target_nil p, told f t) (sym (and_no (has_property p)))

  pub property_some : (c : Bool) → b ≡ true → c ≡ lacks_byte 46 p → not c ≡ is_property p
  unfolding is_property
  property_some c t g =
      let h : lacks_byte 91 p ≡ true = told f t in
      rw (target_nil p, h, property_scan p, own_all p h, ← g) (sym (and_yes (not c)))

-- Lemmas for `prim_len`.
module _ (p o : Text) (w : o ≡ own_part p) (b c : Bool) (f : b ≡ lacks_byte 46 o) where
  pub prim_property : (n : ℕ) → not b ≡ true → n ≡ own_parent_len o → n ≡ prim_len p
  unfolding prim_len has_property
  prim_property n t e = rw (← w, known_false f t) e

  pub prim_selection : (n : ℕ) → not b ≡ false → c ≡ ends_with_byte 125 o → c ≡ true → n ≡ own_parent_len o → n ≡ prim_len p
  unfolding prim_len has_property
  prim_selection n t g u e = rw (← w, known_true f t, told g u) e

  pub prim_other : not b ≡ false → c ≡ ends_with_byte 125 o → c ≡ false → length o ≡ prim_len p
  unfolding prim_len has_property
  prim_other t g u = rw (← w, known_true f t, told g u)

pub ruleset prims = (prim_property, prim_selection, prim_other)
