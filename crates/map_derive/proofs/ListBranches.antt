-- Lemmas for the branches of the functions that change a list.
use mathlib.Core.Path.{◌≡◌, refl, sym, ap, ◌∙◌}
use mathlib.Core.Logic.{◌≢◌}
use mathlib.Core.Bool.{Bool, true, false, not, cond, ◌&&◌, ◌||◌, true≢false}
use mathlib.Core.List.{List, [], ◌∷◌, ◌++◌, append-nil}
use Prim.Native.Nat.{ℕ, zero, suc, ◌+◌, ◌*◌, ◌≤◌, ◌<◌}
use native.Mathlib.Omega.{arith}
use native.Mathlib.Numerals.{add-one}
use native.Mathlib.Decide.{ℕ_discrete}
use lib.ListN.{length}
use Rattle.text.specs.Text.{Text, equal}
use Rattle.text.proofs.BoolLaws.{told, known_false, known_true, and_yes, and_no}
use Rattle.pair_list.specs.Pair.{Pair}
use Rattle.pair_list.specs.Places.{key_at, pair_in, pairs_in}
use Rattle.pair_list_write.specs.Lists.{copy_entry}
use Rattle.pair_list.proofs.PlaceLaws.{pairs_in_length}
use Rattle.pair_list_write.proofs.WriteBranches.{source_key, target_key}
use Rattle.pair_list_write.proofs.CopyLaws.{copied_over, pushed}
use Rattle.map_spec.specs.Compose.{has_source}
use Rattle.map_spec.specs.Derive.{without_source}
use Rattle.map_derive.specs.Calls.{all_ends_equal}

-- Lemmas for `without_source`.
without_append : (s : Text) (a b : List Pair) → without_source s (a ++ b) ≡ without_source s a ++ without_source s b
unfolding without_source
without_append s [] b = refl
without_append s (x ∷ a) b = go (equal x.source s) (without_append s a b)
  where
    go : (t : Bool) → without_source s (a ++ b) ≡ without_source s a ++ without_source s b
        → cond t (without_source s (a ++ b)) (x ∷ without_source s (a ++ b)) ≡ cond t (without_source s a) (x ∷ without_source s a) ++ without_source s b
    go true ih = ih
    go false ih = ap (λ (z : List Pair). x ∷ z) ih

module _ (store : Text) (places : List ℕ) (i : ℕ) (s : Text) (kept : List ℕ) (w : ℕ) (k : Text) (e : k ≡ key_at store places false i) (b : Bool) (h : b ≡ equal k s) where
  source_known : b ≡ equal (pair_in store places i).source s
  source_known = h ∙ ap (λ (z : Text). equal z s) (e ∙ sym (source_key store places i))

  pub other_same : b ≡ true → pairs_in store kept w ≡ pairs_in store kept w ++ without_source s (pair_in store places i ∷ [])
  unfolding without_source
  other_same l = rw (told source_known l) (sym (append-nil (pairs_in store kept w)))

  pub other_kept : b ≡ false → 4 * i + 4 ≤ length places → 4 * w + 4 ≤ length kept → (kept' : List ℕ) → kept' ≡ copy_entry places i w kept
      → pairs_in store kept' (w + 1) ≡ pairs_in store kept w ++ without_source s (pair_in store places i ∷ [])
  unfolding without_source
  other_kept l m n kept' c = rw (add-one w, c, copied_over places i w kept m n, told source_known l) (pushed store places i kept w n)

without_few : (s : Text) (l : List Pair) → length (without_source s l) ≤ length l
unfolding without_source
without_few s [] = omega arith
without_few s (x ∷ l) = go (equal x.source s) (without_few s l)
  where
    go : (t : Bool) → length (without_source s l) ≤ length l → length (cond t (without_source s l) (x ∷ without_source s l)) ≤ suc (length l)
    go true ih = omega arith
    go false ih = omega arith

module _ (store : Text) (places : List ℕ) (s : Text) where
  pub without_none : (kept : List ℕ) → pairs_in store kept 0 ≡ without_source s (pairs_in store places 0)
  unfolding pairs_in without_source
  without_none kept = refl

  pub without_on : (i : ℕ) (kept kept' : List ℕ) (w w' : ℕ) → pairs_in store kept w ≡ without_source s (pairs_in store places i)
      → pairs_in store kept' w' ≡ pairs_in store kept w ++ without_source s (pair_in store places i ∷ []) → pairs_in store kept' w' ≡ without_source s (pairs_in store places (i + 1))
  unfolding pairs_in
  without_on i kept kept' w w' f g = g ∙ rw (f, add-one i) (sym (without_append s (pairs_in store places i) (pair_in store places i ∷ [])))

  pub without_room : (n i w : ℕ) (kept : List ℕ) → i < n → 4 * n ≤ length kept → pairs_in store kept w ≡ without_source s (pairs_in store places i) → 4 * w + 4 ≤ length kept
  without_room n i w kept h k f =
      omega (arith, k, ap length f, pairs_in_length store kept w, without_few s (pairs_in store places i), pairs_in_length store places i)

  pub without_end : (n i w : ℕ) (kept : List ℕ) → n ≤ i → i ≤ n → pairs_in store kept w ≡ without_source s (pairs_in store places i) → pairs_in store kept w ≡ without_source s (pairs_in store places n)
  without_end n i w kept h k f = let z : i ≡ n = omega arith in rw z at f

-- No pair was dropped exactly if no pair has the source.
pub whole_without : (s : Text) (l : List Pair) → length (without_source s l) ≡ length l → (has_source l s ≡ false) × (without_source s l ≡ l)
unfolding without_source has_source
whole_without s [] h = (refl, refl)
whole_without s (x ∷ l) h = go (equal x.source s) h (whole_without s l)
  where
    go : (t : Bool) → length (cond t (without_source s l) (x ∷ without_source s l)) ≡ suc (length l)
        → (length (without_source s l) ≡ length l → (has_source l s ≡ false) × (without_source s l ≡ l))
        → ((t || has_source l s) ≡ false) × (cond t (without_source s l) (x ∷ without_source s l) ≡ x ∷ l)
    go true h ih = absurd (omega (arith, without_few s l))
    go false h ih = let z = ih (omega arith) in (z.0, ap (λ (y : List Pair). x ∷ y) z.1)

pub without_all : (s : Text) (l : List Pair) → has_source l s ≡ false → length (without_source s l) ≡ length l
unfolding without_source has_source
without_all s [] h = refl
without_all s (x ∷ l) h = go (equal x.source s) h (without_all s l)
  where
    go : (t : Bool) → (t || has_source l s) ≡ false → (has_source l s ≡ false → length (without_source s l) ≡ length l) → length (cond t (without_source s l) (x ∷ without_source s l)) ≡ suc (length l)
    go true h ih = absurd (true≢false h)
    go false h ih = ap suc (ih h)

-- Lemmas for `all_ends_equal`.
same_append : (a b : List Pair) → all_ends_equal (a ++ b) ≡ (all_ends_equal a && all_ends_equal b)
unfolding all_ends_equal
same_append [] b = refl
same_append (x ∷ a) b = go (equal x.source x.target) (same_append a b)
  where
    go : (t : Bool) → all_ends_equal (a ++ b) ≡ (all_ends_equal a && all_ends_equal b) → (t && all_ends_equal (a ++ b)) ≡ (t && all_ends_equal a && all_ends_equal b)
    go true ih = ih
    go false ih = refl

module _ (store : Text) (places : List ℕ) where
  same_next : (i : ℕ) → all_ends_equal (pairs_in store places (suc i)) ≡ (all_ends_equal (pairs_in store places i) && equal (key_at store places false i) (key_at store places true i))
  unfolding pairs_in all_ends_equal
  same_next i =
      same_append (pairs_in store places i) (pair_in store places i ∷ [])
      ∙ ap (λ (b : Bool). all_ends_equal (pairs_in store places i) && b) (and_yes (equal (pair_in store places i).source (pair_in store places i).target) ∙ rw (source_key store places i, target_key store places i) refl)

  same_at : (n i : ℕ) → i < n → equal (key_at store places false i) (key_at store places true i) ≡ false → all_ends_equal (pairs_in store places n) ≡ false
  same_at zero i h e = absurd (omega arith)
  same_at (suc n) i h e = elim (ℕ_discrete i n) [
    | yes k ↦ same_next n ∙ rw (rw k at e) (and_no (all_ends_equal (pairs_in store places n)))
    | no k ↦ same_next n ∙ rw (same_at n i (omega arith) e) refl
  ]

  pub same_none : true ≡ all_ends_equal (pairs_in store places 0)
  unfolding pairs_in all_ends_equal
  same_none = refl

  module _ (i : ℕ) (s t : Text) (e : s ≡ key_at store places false i) (f : t ≡ key_at store places true i) (b : Bool) (h : b ≡ equal s t) where
    keys_known : b ≡ equal (key_at store places false i) (key_at store places true i)
    keys_known = h ∙ rw (e, f) refl

    pub same_not : (n : ℕ) → i < n → not b ≡ true → false ≡ all_ends_equal (pairs_in store places n)
    same_not n l k = sym (same_at n i l (known_false keys_known k))

    pub same_on : true ≡ all_ends_equal (pairs_in store places i) → not b ≡ false → true ≡ all_ends_equal (pairs_in store places (i + 1))
    same_on g k = rw (add-one i) (sym (same_next i ∙ rw (← g, known_true keys_known k) refl))

  pub same_end : (n i : ℕ) → n ≤ i → i ≤ n → true ≡ all_ends_equal (pairs_in store places i) → true ≡ all_ends_equal (pairs_in store places n)
  same_end n i h k e = let z : i ≡ n = omega arith in rw z at e

-- The number of pairs of a list without a source.
module _ (store : Text) (places kept : List ℕ) (s : Text) (n w : ℕ) (e : pairs_in store kept w ≡ without_source s (pairs_in store places n)) where
  left_length : length (without_source s (pairs_in store places n)) ≡ w
  left_length = sym (ap length e) ∙ pairs_in_length store kept w

  pub left_all : w ≡ n → length (without_source s (pairs_in store places n)) ≡ length (pairs_in store places n)
  left_all h = left_length ∙ h ∙ sym (pairs_in_length store places n)

  pub left_some : w ≢ n → length (without_source s (pairs_in store places n)) ≡ length (pairs_in store places n) → ⊥
  left_some h k = h (sym left_length ∙ k ∙ pairs_in_length store places n)

  pub left_few : w ≤ n
  left_few = omega (arith, left_length, without_few s (pairs_in store places n), pairs_in_length store places n)
