-- Lemmas for the branches of `keep_level`, `canonicalize` and `canonical_places`.
use mathlib.Core.Path.{◌≡◌, refl, sym, ap, ◌∙◌}
use mathlib.Core.Bool.{Bool, true, false, not, cond, ◌&&◌}
use mathlib.Core.List.{List, [], ◌∷◌, ◌++◌, append-nil}
use Prim.Native.Nat.{ℕ, zero, suc, ◌+◌, ◌*◌, ◌≤◌, ◌<◌}
use native.Mathlib.Omega.{arith}
use native.Mathlib.Decide.{ℕ_discrete}
use native.Mathlib.Numerals.{add-one}
use lib.Dec.{eqb}
use lib.ListN.{length, length-append}
use Rattle.text.specs.Text.{Text}
use Rattle.text.proofs.BoolLaws.{known_false, known_true, not_true, and_l, and_r}
use Rattle.pair_list.specs.Pair.{Pair}
use Rattle.pair_list.specs.Places.{pair_in, pairs_in}
use Rattle.pair_list_write.specs.Lists.{copy_entry}
use Rattle.pair_list_write.specs.Select.{indices_where, HoldsEntries, selected_pairs}
use Rattle.pair_list_write.proofs.SelectLaws.{selected_none, selected_read, selected_turn}
use Rattle.validate.specs.Validate.{lent_list, count_within_limit}
use Rattle.validate.specs.Select.{can_select}
use Rattle.map_spec.specs.Map.{Map, lent_map}
use Rattle.map_spec.specs.New.{is_root_pair}
use Rattle.map_canonical.specs.ByKey.{with_key, by_key}
use Rattle.map_canonical.specs.Canonical.{source_elements, max_elements, non_root_pairs, non_root_with_elements, kept_indices, canonical_indices, kept_selection, keeps_pair}
use Rattle.map_canonical.proofs.LevelLaws.{level_append, levels_few}
use Rattle.map_canonical.proofs.KeptLaws.{others_few, kept_append, kept_few}

-- Lemmas for `keep_level`.
module _ (store : Text) (places : List ℕ) (e : ℕ) where
  abbrev first : ℕ → List ℕ
  first i = non_root_with_elements store places e i

  -- The level of pair i alone.
  abbrev alone : ℕ → List ℕ
  alone i = cond (is_root_pair (pair_in store places i)) [] (cond (eqb (source_elements store places i) e) (i ∷ []) [])

  own_next : (i : ℕ) → first (suc i) ≡ first i ++ alone i
  unfolding non_root_with_elements non_root_pairs indices_where with_key
  own_next i = go (is_root_pair (pair_in store places i))
    where
      before : List ℕ
      before = indices_where (λ (k : ℕ). not (is_root_pair (pair_in store places k))) i

      go : (t : Bool)
          → with_key (source_elements store places) e (cond (not t) (before ++ i ∷ []) before) ≡ with_key (source_elements store places) e before ++ cond t [] (cond (eqb (source_elements store places i) e) (i ∷ []) [])
      go true = sym (append-nil (with_key (source_elements store places) e before))
      go false = level_append (source_elements store places) e before (i ∷ [])

  own_grows : (n i : ℕ) → i ≤ n → length (first i) ≤ length (first n)
  own_grows zero i h = let z : i ≡ 0 = omega arith in rw z (omega arith)
  own_grows (suc n) i h = elim (ℕ_discrete i (suc n)) [
    | yes k ↦ rw k (omega arith)
    | no k ↦ omega (arith, own_grows n i (omega arith), ap length (own_next n), length-append (first n) (alone n))
  ]

  pub level_held : (w₀ n size i w : ℕ) → 4 * (w₀ + length (first n)) ≤ size → i < n → w ≤ w₀ + length (first i) → w ≤ size
  level_held w₀ n size i w room l f = omega (arith, own_grows n i (omega arith))

  module _ (implies : Map → Pair → Bool) (mark : Bool) where
    -- One more pair is considered.
    one_more : (picks : List ℕ) (i : ℕ)
        → kept_indices implies store places mark picks (alone i)
        ≡ cond (eqb (source_elements store places i) e && (not (is_root_pair (pair_in store places i)) && not (implies (record { pairs = selected_pairs store places picks; mark = mark }) (pair_in store places i)))) (picks ++ i ∷ []) picks
    unfolding kept_indices
    one_more picks i =
        go (is_root_pair (pair_in store places i)) (eqb (source_elements store places i) e)
      where
        go : (t s : Bool)
            → kept_indices implies store places mark picks (cond t [] (cond s (i ∷ []) []))
            ≡ cond (s && (not t && not (implies (record { pairs = selected_pairs store places picks; mark = mark }) (pair_in store places i)))) (picks ++ i ∷ []) picks
        go true true = refl
        go true false = refl
        go false true = flip (implies (record { pairs = selected_pairs store places picks; mark = mark }) (pair_in store places i))
          where
            flip : (u : Bool) → cond u picks (picks ++ i ∷ []) ≡ cond (not u) (picks ++ i ∷ []) picks
            flip true = refl
            flip false = refl
        go false false = refl

    -- The w kept pairs are those from before, and at most those of the level.
    module _ (i key : ℕ) (kept : List ℕ) (w : ℕ) (k : key ≡ source_elements store places i) where
      abbrev kept_here : Bool
      kept_here = keeps_pair implies store places i key e mark kept w

      alone_one : kept_here ≡ true → length (first (suc i)) ≡ length (first i) + 1
      unfolding keeps_pair
      alone_one h =
          let r : Bool = not (is_root_pair (pair_in store places i)) in
          let u : Bool = not (implies (lent_map store kept w mark) (pair_in store places i)) in
          let p : is_root_pair (pair_in store places i) ≡ false = not_true (is_root_pair (pair_in store places i)) (and_l r u (and_r (eqb key e) (r && u) h)) in
          ap length (own_next i) ∙ rw (length-append (first i) (alone i), p, ← k, and_l (eqb key e) (r && u) h) refl

      module _ (w₀ : ℕ) (f : w ≤ w₀ + length (first i)) where
        pub level_room : (n size : ℕ) → i < n → 4 * (w₀ + length (first n)) ≤ size → length kept ≡ size → kept_here ≡ true → 4 * w + 4 ≤ length kept
        level_room n size l room s h = omega (arith, alone_one h, own_grows n (suc i) l)

        pub level_count : (w' : ℕ) → w' ≡ cond kept_here (w + 1) w → w' ≤ w₀ + length (first (i + 1))
        level_count w' g = rw (add-one i) (go kept_here refl g)
          where
            go : (b : Bool) → kept_here ≡ b → w' ≡ cond b (w + 1) w → w' ≤ w₀ + length (first (suc i))
            go true h g = omega (arith, alone_one h)
            go false h g = omega (arith, own_grows (suc i) i (omega arith))

    module _ (kept₀ : List ℕ) (w₀ : ℕ) where
      -- What the buffer holds after the first i pairs, whatever it held before.
      abbrev pub After : ℕ → List ℕ → ℕ → Type 0
      After i kept w = (picks old : List ℕ) → HoldsEntries places picks old kept₀ w₀ → HoldsEntries places (kept_indices implies store places mark picks (first i)) old kept w

      pub level_none : After 0 kept₀ w₀
      unfolding non_root_with_elements non_root_pairs indices_where with_key kept_indices
      level_none picks old h = h

      pub level_on : (i key : ℕ) (kept : List ℕ) (w : ℕ) → key ≡ source_elements store places i → After i kept w → 4 * i + 4 ≤ length places
          → (keeps_pair implies store places i key e mark kept w ≡ true → 4 * w + 4 ≤ length kept) → (kept' : List ℕ) (w' : ℕ) → w' ≡ cond (keeps_pair implies store places i key e mark kept w) (w + 1) w
          → kept' ≡ cond (keeps_pair implies store places i key e mark kept w) (copy_entry places i w kept) kept → After (i + 1) kept' w'
      unfolding keeps_pair
      level_on i key kept w k a held room kept' w' f t picks old h =
          let now : List ℕ = kept_indices implies store places mark picks (first i) in
          let g : HoldsEntries places now old kept w = a picks old h in
          let r : pairs_in store kept w ≡ selected_pairs store places now = selected_read places store now old kept w g in
          rw (add-one i, own_next i, kept_append store places implies mark picks (first i) (alone i), one_more now i, ← r, ← k)
          (selected_turn places i now old kept w held g (keeps_pair implies store places i key e mark kept w) room w' kept' f t)

      pub level_end : (n i : ℕ) (kept : List ℕ) (w : ℕ) → n ≤ i → i ≤ n → After i kept w → After n kept w
      level_end n i kept w h k a = let z : i ≡ n = omega arith in rw z at a

-- Lemmas for `canonicalize`.
module _ (store : Text) (places : List ℕ) (n : ℕ) (implies : Map → Pair → Bool) (mark : Bool) (kept₀ : List ℕ) where
  -- The kept pairs of the levels below e.
  abbrev pub below : ℕ → List ℕ
  below e = kept_indices implies store places mark [] (by_key (source_elements store places) e (non_root_pairs store places n))

  pub levels_none : HoldsEntries places (below 0) kept₀ kept₀ 0
  unfolding by_key kept_indices
  levels_none = selected_none places kept₀

  module _ (e : ℕ) (kept : List ℕ) (w : ℕ) (h : HoldsEntries places (below e) kept₀ kept w) where
    pub levels_on : (kept' : List ℕ) (w' : ℕ)
        → ((picks old : List ℕ) → HoldsEntries places picks old kept w → HoldsEntries places (kept_indices implies store places mark picks (non_root_with_elements store places e n)) old kept' w') → HoldsEntries places (below (e + 1)) kept₀ kept' w'
    unfolding non_root_with_elements by_key
    levels_on kept' w' f =
        rw (add-one e, kept_append store places implies mark [] (by_key (source_elements store places) e (non_root_pairs store places n)) (non_root_with_elements store places e n)) (f (below e) kept₀ h)

    pub levels_room : n ≤ 64 → 256 ≤ length kept → 4 * (w + length (non_root_with_elements store places e n)) ≤ length kept
    unfolding non_root_with_elements by_key
    levels_room k l =
        let all : List ℕ = non_root_pairs store places n in
        omega (
          arith,
          h.0,
          kept_few store places implies mark [] (by_key (source_elements store places) e all),
          length-append (by_key (source_elements store places) e all) (with_key (source_elements store places) e all),
          levels_few (source_elements store places) (suc e) all,
          others_few store places n,
        )

    pub levels_end : (top : ℕ) → top ≡ max_elements store places n → top ≤ e → e ≤ top → (kept' : List ℕ) (w' : ℕ)
        → ((picks old : List ℕ) → HoldsEntries places picks old kept w → HoldsEntries places (kept_indices implies store places mark picks (non_root_with_elements store places top n)) old kept' w')
        → HoldsEntries places (canonical_indices implies store places n mark) kept₀ kept' w'
    unfolding canonical_indices
    levels_end top m k l kept' w' f =
        let z : e ≡ top = omega arith in
        rw (z, m, add-one (max_elements store places n)) at (levels_on kept' w' (rw (← z) at f))

    pub top_room : (top : ℕ) → top ≤ e → e ≤ top → n ≤ 64 → 256 ≤ length kept → 4 * (w + length (non_root_with_elements store places top n)) ≤ length kept
    top_room top k l m o = let z : top ≡ e = omega arith in rw z (levels_room m o)

-- Lemmas for `canonical_places`.
module _ (store : Text) (places : List ℕ) (n : ℕ) (implies : Map → Pair → Bool) (mark : Bool) (kept : List ℕ) (b : Bool) (e : b ≡ can_select (lent_list [] places n) (length kept)) where
  abbrev picks : List ℕ
  picks = kept_selection implies (lent_list store places n) mark (length kept)

  pub places_none : not b ≡ true → HoldsEntries places picks kept kept 0
  unfolding kept_selection can_select count_within_limit
  places_none h = rw (known_false e h) (selected_none places kept)

  pub places_made : not b ≡ false → (kept' : List ℕ) (w : ℕ) → HoldsEntries places (canonical_indices implies store places n mark) kept kept' w → HoldsEntries places picks kept kept' w
  unfolding kept_selection can_select count_within_limit
  places_made h kept' w f = rw (known_true e h) f
