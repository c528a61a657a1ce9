-- Lemmas about the Active pairs: the indices that the code selects are those of the pairs of `active_pairs`.
use mathlib.Core.Path.{◌≡◌, refl, ◌∙◌}
use mathlib.Core.Bool.{Bool, true, false, cond}
use mathlib.Core.List.{List, [], ◌∷◌, ◌++◌, map-append}
use Prim.Native.Nat.{ℕ, zero, suc, ◌≤◌}
use native.Mathlib.Omega.{arith}
use lib.Dec.{eqb}
use Rattle.text.specs.Text.{Text}
use Rattle.pair_list.specs.Pair.{Pair, pair_at}
use Rattle.pair_list.specs.Places.{pair_in, pairs_in}
use Rattle.pair_list.proofs.PlaceLaws.{pairs_in_at}
use Rattle.pair_list_write.specs.Select.{indices_where, HoldsEntries, selected_pairs}
use Rattle.pair_list_write.proofs.SelectLaws.{selected_read}
use Rattle.validate.specs.Validate.{lent_list}
use Rattle.validate.specs.Select.{can_select, pairs_if_selectable}
use Rattle.relocates.specs.Status.{status_byte, occurrence, active_pairs}
use Rattle.relocates.specs.Select.{active_indices, active_selection}

module _ (store : Text) (places : List ℕ) (n : ℕ) where
  abbrev list : List Pair
  list = pairs_in store places n

  all_active : (i : ℕ) → i ≤ n → selected_pairs store places (active_indices list i) ≡ active_pairs list i
  unfolding active_indices indices_where active_pairs
  all_active zero h = refl
  all_active (suc i) h = go (eqb (status_byte (occurrence list i)) 0) (all_active i (omega arith))
    where
      before : List ℕ
      before = indices_where (λ (k : ℕ). eqb (status_byte (occurrence list k)) 0) i

      go : (b : Bool) → selected_pairs store places before ≡ active_pairs list i → selected_pairs store places (cond b (before ++ i ∷ []) before) ≡ cond b (active_pairs list i ++ pair_at list i ∷ []) (active_pairs list i)
      go true ih = map-append (pair_in store places) before (i ∷ []) ∙ rw (ih, pairs_in_at store places n i (omega arith)) refl
      go false ih = ih

  -- The places that `active_pairs` writes are read as the Active pairs.
  pub active_read : (room : ℕ) (kept kept' : List ℕ) (w : ℕ) → HoldsEntries places (active_selection (lent_list store places n) room) kept kept' w
      → pairs_in store kept' w ≡ pairs_if_selectable (lent_list store places n) room (active_pairs list n)
  unfolding active_selection pairs_if_selectable
  active_read room kept kept' w h = selected_read places store (active_selection (lent_list store places n) room) kept kept' w h ∙ go (can_select (lent_list store places n) room)
    where
      go : (b : Bool) → selected_pairs store places (cond b (active_indices list n) []) ≡ cond b (active_pairs list n) []
      go true = all_active n (omega arith)
      go false = refl
