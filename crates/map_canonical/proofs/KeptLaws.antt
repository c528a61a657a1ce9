-- The kept pairs, by their indices, are the pairs of the map.
use mathlib.Core.Path.{◌≡◌, refl, sym, ap, ◌∙◌}
use mathlib.Core.Bool.{Bool, true, false, not, cond}
use mathlib.Core.List.{List, [], ◌∷◌, ◌++◌, map-append, append-nil}
use Prim.Native.Nat.{ℕ, zero, suc, ◌+◌, ◌≤◌, ◌<◌}
use native.Mathlib.Omega.{arith}
use native.Mathlib.Decide.{ℕ_discrete}
use lib.ListN.{length, length-append}
use Rattle.text.specs.Text.{Text}
use Rattle.path_prefix.specs.Elements.{element_count}
use Rattle.pair_list.specs.Pair.{Pair}
use Rattle.pair_list.specs.Places.{pair_in, pairs_in}
use Rattle.pair_list_write.specs.Select.{indices_where, HoldsEntries, selected_pairs}
use Rattle.pair_list_write.proofs.SelectLaws.{passing_few, selected_read}
use Rattle.validate.specs.Validate.{lent_list}
use Rattle.validate.specs.Select.{can_select, pairs_if_selectable}
use Rattle.map_spec.specs.Map.{Map}
use Rattle.map_spec.specs.New.{is_root_pair, without_root_pairs, is_redundant, drop_redundant, sort_and_drop, canonicalize}
use Rattle.map_spec.proofs.DropLaws.{canonical_keeps}
use Rattle.map_canonical.specs.ByKey.{by_key}
use Rattle.map_canonical.specs.Canonical.{source_elements, max_elements, non_root_pairs, kept_indices, canonical_indices, kept_selection, canonical_selection}
use Rattle.map_canonical.proofs.LevelLaws.{key, Below, sorted_levels, levels_map, no_roots_append}

below_snoc : (e : ℕ) (l : List Pair) (x : Pair) → Below e l → element_count x.source < e → Below e (l ++ x ∷ [])
unfolding Below
below_snoc e [] x b h = (h, tt)
below_snoc e (y ∷ l) x b h = (b.0, below_snoc e l x b.1 h)

below_no_roots : (e : ℕ) (l : List Pair) → Below e l → Below e (without_root_pairs l)
unfolding Below without_root_pairs
below_no_roots e [] b = b
below_no_roots e (x ∷ l) b = go (is_root_pair x) (below_no_roots e l b.1)
  where
    go : (t : Bool) → Below e (without_root_pairs l) → Below e (cond t (without_root_pairs l) (x ∷ without_root_pairs l))
    go true ih = ih
    go false ih = (b.0, ih)

module _ (store : Text) (places : List ℕ) where
  pub others_few : (n : ℕ) → length (non_root_pairs store places n) ≤ n
  unfolding non_root_pairs
  others_few n = passing_few (λ (i : ℕ). not (is_root_pair (pair_in store places i))) n

  others_read : (n : ℕ) → selected_pairs store places (non_root_pairs store places n) ≡ without_root_pairs (pairs_in store places n)
  unfolding non_root_pairs indices_where pairs_in without_root_pairs
  others_read zero = refl
  others_read (suc n) = sym (no_roots_append (pairs_in store places n) (x ∷ []) ∙ rw (← others_read n) (go (is_root_pair x)))
    where
      x : Pair
      x = pair_in store places n

      before : List ℕ
      before = indices_where (λ (i : ℕ). not (is_root_pair (pair_in store places i))) n

      go : (t : Bool) → selected_pairs store places before ++ cond t [] (x ∷ []) ≡ selected_pairs store places (cond (not t) (before ++ n ∷ []) before)
      go true = append-nil (selected_pairs store places before)
      go false = sym (map-append (pair_in store places) before (n ∷ []))

  -- No source has more elements than the maximum.
  most_at : (n i : ℕ) → i < n → source_elements store places i ≤ max_elements store places n
  unfolding max_elements
  most_at zero i h = absurd (omega arith)
  most_at (suc n) i h = elim (ℕ_discrete i n) [ yes k ↦ rw k (omega arith) | no k ↦ omega (arith, most_at n i (omega arith)) ]

  all_below : (n top : ℕ) → ((i : ℕ) → i < n → source_elements store places i ≤ top) → Below (suc top) (pairs_in store places n)
  unfolding Below pairs_in source_elements
  all_below zero top f = tt
  all_below (suc n) top f =
      below_snoc (suc top) (pairs_in store places n) (pair_in store places n) (all_below n top (λ i h. f i (omega arith))) (omega (arith, f n (omega arith)))

  -- For any test of which pairs are redundant.
  module _ (implies : Map → Pair → Bool) (mark : Bool) where
    -- Selecting from a concatenation is selecting from its parts one after another.
    pub kept_append : (k a b : List ℕ) → kept_indices implies store places mark k (a ++ b) ≡ kept_indices implies store places mark (kept_indices implies store places mark k a) b
    unfolding kept_indices
    kept_append k [] b = refl
    kept_append k (i ∷ a) b = kept_append (cond (implies (record { pairs = selected_pairs store places k; mark = mark }) (pair_in store places i)) k (k ++ i ∷ [])) a b

    pub kept_few : (k a : List ℕ) → length (kept_indices implies store places mark k a) ≤ length k + length a
    unfolding kept_indices
    kept_few k [] = omega arith
    kept_few k (i ∷ a) = go (implies (record { pairs = selected_pairs store places k; mark = mark }) (pair_in store places i)) (λ j. kept_few j a)
      where
        go : (t : Bool) → ((j : List ℕ) → length (kept_indices implies store places mark j a) ≤ length j + length a) → length (kept_indices implies store places mark (cond t k (k ++ i ∷ [])) a) ≤ length k + suc (length a)
        go true ih = omega (arith, ih k)
        go false ih = omega (arith, ih (k ++ i ∷ []), length-append k (i ∷ []))

    kept_read : (k a : List ℕ) → selected_pairs store places (kept_indices implies store places mark k a) ≡ drop_redundant implies mark (selected_pairs store places k) (selected_pairs store places a)
    unfolding kept_indices drop_redundant
    kept_read k [] = refl
    kept_read k (i ∷ a) = go (implies (record { pairs = selected_pairs store places k; mark = mark }) (pair_in store places i)) (λ j. kept_read j a)
      where
        x : Pair
        x = pair_in store places i

        go : (t : Bool) → ((j : List ℕ) → selected_pairs store places (kept_indices implies store places mark j a) ≡ drop_redundant implies mark (selected_pairs store places j) (selected_pairs store places a))
            → selected_pairs store places (kept_indices implies store places mark (cond t k (k ++ i ∷ [])) a) ≡ drop_redundant implies mark (cond t (selected_pairs store places k) (selected_pairs store places k ++ x ∷ [])) (selected_pairs store places a)
        go true ih = ih k
        go false ih = ih (k ++ i ∷ []) ∙ ap (λ (l : List Pair). drop_redundant implies mark l (selected_pairs store places a)) (map-append (pair_in store places) k (i ∷ []))

    all_kept : (n : ℕ) → selected_pairs store places (canonical_indices implies store places n mark) ≡ sort_and_drop implies mark (without_root_pairs (pairs_in store places n))
    unfolding canonical_indices source_elements sort_and_drop
    all_kept n =
        let e : ℕ = suc (max_elements store places n) in
        kept_read [] (by_key (source_elements store places) e (non_root_pairs store places n))
        ∙ ap (λ (l : List Pair). drop_redundant implies mark [] l) (levels_map (pair_in store places) key e (non_root_pairs store places n)
        ∙ ap (λ (l : List Pair). by_key key e l) (others_read n)
        ∙ sym (sorted_levels e (without_root_pairs (pairs_in store places n)) (below_no_roots e (pairs_in store places n) (all_below n (max_elements store places n) (most_at n)))))

    -- The places of the selected pairs are read as the pairs that are left after dropping.
    pub kept_selection_read : (n room : ℕ) (kept kept' : List ℕ) (w : ℕ) → HoldsEntries places (kept_selection implies (lent_list store places n) mark room) kept kept' w
        → pairs_in store kept' w ≡ pairs_if_selectable (lent_list store places n) room (sort_and_drop implies mark (without_root_pairs (pairs_in store places n)))
    unfolding kept_selection pairs_if_selectable
    kept_selection_read n room kept kept' w h =
        selected_read places store (kept_selection implies (lent_list store places n) mark room) kept kept' w h ∙ go (can_select (lent_list store places n) room)
      where
        go : (b : Bool) → selected_pairs store places (cond b (canonical_indices implies store places n mark) []) ≡ cond b (sort_and_drop implies mark (without_root_pairs (pairs_in store places n))) []
        go true = all_kept n
        go false = refl

  -- The places that `canonical_places` writes are read as the pairs of the map.
  pub canonical_read : (mark : Bool) (n room : ℕ) (kept kept' : List ℕ) (w : ℕ) → HoldsEntries places (canonical_selection (lent_list store places n) mark room) kept kept' w
      → pairs_in store kept' w ≡ pairs_if_selectable (lent_list store places n) room (canonicalize mark (without_root_pairs (pairs_in store places n)))
  canonical_read mark n room kept kept' w h =
      kept_selection_read is_redundant mark n room kept kept' w h
      ∙ ap (λ (l : List Pair). pairs_if_selectable (lent_list store places n) room l) (sym (canonical_keeps mark (without_root_pairs (pairs_in store places n))))
