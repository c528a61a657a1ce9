-- Lemmas about the branches of `keep_active` and `active_pairs`.
use mathlib.Core.Path.{◌≡◌, refl}
use mathlib.Core.Logic.{◌≢◌}
use mathlib.Core.Bool.{Bool, true, false, not, cond}
use mathlib.Core.List.{List, []}
use Prim.Native.Nat.{ℕ, ◌+◌, ◌*◌, ◌≤◌, ◌<◌}
use native.Mathlib.Omega.{arith}
use native.Mathlib.Numerals.{add-one}
use lib.Dec.{eqb}
use lib.ListN.{length, get_or}
use borrow.Author.Tests.{eq-eqb, ne_eqb}
use Rattle.text.specs.Text.{Text, written}
use Rattle.text.proofs.BoolLaws.{known_false, known_true}
use Rattle.pair_list.specs.Pair.{Pair}
use Rattle.pair_list.specs.Places.{pairs_in}
use Rattle.pair_list_write.specs.Lists.{copy_entry}
use Rattle.pair_list_write.specs.Select.{indices_where, HoldsEntries}
use Rattle.pair_list_write.proofs.SelectLaws.{passing_few, selected_none, selected_turn}
use Rattle.validate.specs.Validate.{lent_list, count_within_limit}
use Rattle.validate.specs.Select.{can_select}
use Rattle.relocates.specs.Status.{status_byte, occurrence, status_list}
use Rattle.relocates.specs.Select.{active_indices, active_selection}
use Rattle.relocates.proofs.InitialBranches.{bytes_at}

-- `keep_active`
module _ (places : List ℕ) (i status : ℕ) (kept : List ℕ) (w : ℕ) where
  pub active_left : status ≢ 0 → (w ≡ cond (eqb status 0) (w + 1) w) × (kept ≡ cond (eqb status 0) (copy_entry places i w kept) kept)
  active_left h = rw (ne_eqb status 0 h) (refl, refl)

  pub active_kept : status ≡ 0 → (kept' : List ℕ) → kept' ≡ copy_entry places i w kept
      → (w + 1 ≡ cond (eqb status 0) (w + 1) w) × (kept' ≡ cond (eqb status 0) (copy_entry places i w kept) kept)
  active_kept h kept' e = rw (eq-eqb status 0 h) (refl, e)

-- `active_pairs`
module _ (store : Text) (places : List ℕ) (n : ℕ) (kept₀ : List ℕ) where
  abbrev list : List Pair
  list = pairs_in store places n

  pub active_none : HoldsEntries places (active_indices list 0) kept₀ kept₀ 0
  unfolding active_indices indices_where
  active_none = selected_none places kept₀

  pub active_few : (i : ℕ) (kept : List ℕ) (w : ℕ) → HoldsEntries places (active_indices list i) kept₀ kept w → w ≤ i
  unfolding active_indices
  active_few i kept w h = omega (arith, h.0, passing_few (λ (k : ℕ). eqb (status_byte (occurrence list k)) 0) i)

  module _ (i : ℕ) (h : i < n) (held : 4 * n ≤ length places) (status out : Text) (s : status ≡ written (status_list list n) out)
      (kept : List ℕ) (w : ℕ) (room : 4 * n ≤ length kept) (e : HoldsEntries places (active_indices list i) kept₀ kept w) where
    status_at : get_or status i 0 ≡ status_byte (occurrence list i)
    unfolding status_list
    status_at = rw s (bytes_at (occurrence list) out n i h)

    pub active_on : (r : ℕ) (kept' : List ℕ) → (r ≡ cond (eqb (get_or status i 0) 0) (w + 1) w) × (kept' ≡ cond (eqb (get_or status i 0) 0) (copy_entry places i w kept) kept) → HoldsEntries places (active_indices list (i + 1)) kept₀ kept' r
    unfolding active_indices indices_where
    active_on r kept' t =
        rw (add-one i, ← status_at)
        (selected_turn places i (active_indices list i) kept₀ kept w (omega arith) e (eqb (get_or status i 0) 0) (λ _. omega (arith, active_few i kept w e)) r kept' t.0 t.1)

  module _ (b : Bool) (e : b ≡ can_select (lent_list [] places n) (length kept₀)) where
    abbrev picks : List ℕ
    picks = active_selection (lent_list store places n) (length kept₀)

    pub selection_none : not b ≡ true → HoldsEntries places picks kept₀ kept₀ 0
    unfolding active_selection can_select count_within_limit
    selection_none h = rw (known_false e h) (selected_none places kept₀)

    pub active_end : not b ≡ false → (i : ℕ) (kept : List ℕ) (w : ℕ) → n ≤ i → i ≤ n → HoldsEntries places (active_indices list i) kept₀ kept w → HoldsEntries places picks kept₀ kept w
    unfolding active_selection can_select count_within_limit
    active_end h i kept w k l f = let z : i ≡ n = omega arith in rw (known_true e h) (rw z at f)
