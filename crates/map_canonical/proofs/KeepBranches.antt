-- Lemmas for the branches of the functions that select the pairs to keep.
use Rattle.std.specs.Prelude.{Option, Some, None}
use mathlib.Core.Path.{◌≡◌, refl, sym, ap, ◌∙◌}
use mathlib.Core.Logic.{◌≢◌}
use mathlib.Core.Bool.{Bool, true, false, not, cond, ◌||◌}
use mathlib.Core.List.{List, [], ◌∷◌, ◌++◌}
use Prim.Native.Nat.{ℕ, zero, suc, max, ◌+◌, ◌-◌, ◌/◌, ◌≤◌, ◌<◌}
use native.Mathlib.Omega.{arith}
use native.Mathlib.Numerals.{add-one}
use native.Mathlib.Decide.{ℕ_discrete}
use lib.ListN.{length, get_or, take, drop, set}
use borrow.Author.Tests.{le-leb, eq-eqb, ne_eqb}
use lib.Seq.{get_or-set_same, get_or-set_other}
use Rattle.text.specs.Text.{Text, equal}
use Rattle.text.proofs.BoolLaws.{told, not_true, not_false, or_right, or_false}
use Rattle.text.proofs.WriteLaws.{rest_whole}
use Rattle.path_prefix.specs.Elements.{element_count}
use Rattle.path_join.specs.Join.{join, replace_prefix}
use Rattle.path_join.proofs.ReplaceLaws.{replace_prefix_lem}
use Rattle.pair_list.specs.Pair.{Pair}
use Rattle.pair_list.specs.Places.{key_at, pair_in, pairs_in}
use Rattle.pair_list_write.specs.Lists.{copy_entry}
use Rattle.pair_list.specs.LongestMatch.{longest_match, matches}
use Rattle.pair_list.proofs.PlaceLaws.{pair_is}
use Rattle.pair_list_write.proofs.WriteBranches.{source_key}
use Rattle.validate.specs.Validate.{lent_list, count_within_limit}
use Rattle.validate.specs.Select.{can_select, pairs_if_selectable}
use Rattle.map_spec.specs.Map.{Map, lent_map, map_source, map_target}
use Rattle.map_spec.specs.New.{is_root_pair, any_root_pair, without_root_pairs, map_via_pair, map_via, is_some_text, is_redundant, from_parts_by}
use Rattle.map_spec.proofs.LentLaws.{matched_long, out_keys, ends_by}
use Rattle.map_canonical.specs.Canonical.{source_elements, max_elements, HoldsElementCounts, keeps_pair}
use Rattle.pair_list.proofs.LongestMatchLaws.{chosen_best, served}

-- Lemmas for `any_root_pair`.
any_append : (a b : List Pair) → any_root_pair (a ++ b) ≡ (any_root_pair a || any_root_pair b)
unfolding any_root_pair
any_append [] b = refl
any_append (x ∷ a) b = go (is_root_pair x) (any_append a b)
  where
    go : (t : Bool) → any_root_pair (a ++ b) ≡ (any_root_pair a || any_root_pair b) → (t || any_root_pair (a ++ b)) ≡ (t || any_root_pair a || any_root_pair b)
    go true ih = refl
    go false ih = ih

module _ (store : Text) (places : List ℕ) where
  any_next : (i : ℕ) → any_root_pair (pairs_in store places (suc i)) ≡ (any_root_pair (pairs_in store places i) || is_root_pair (pair_in store places i))
  unfolding pairs_in any_root_pair
  any_next i = any_append (pairs_in store places i) (pair_in store places i ∷ []) ∙ ap (λ (b : Bool). any_root_pair (pairs_in store places i) || b) (or_false (is_root_pair (pair_in store places i)))

  any_at : (n i : ℕ) → i < n → is_root_pair (pair_in store places i) ≡ true → any_root_pair (pairs_in store places n) ≡ true
  any_at zero i h e = absurd (omega arith)
  any_at (suc n) i h e = elim (ℕ_discrete i n) [
    | yes k ↦ any_next n ∙ or_right (any_root_pair (pairs_in store places n)) (is_root_pair (pair_in store places n)) (rw k at e)
    | no k ↦ any_next n ∙ rw (any_at n i (omega arith) e) refl
  ]

  module _ (i : ℕ) (b : Bool) (h : b ≡ is_root_pair (pair_in store places i)) where
    pub any_found : (n : ℕ) → i < n → b ≡ true → true ≡ any_root_pair (pairs_in store places n)
    any_found n l k = sym (any_at n i l (told h k))

    pub any_on : false ≡ any_root_pair (pairs_in store places i) → b ≡ false → false ≡ any_root_pair (pairs_in store places (i + 1))
    any_on e k = rw add-one (sym (any_next i ∙ rw (← e, told h k) refl))

  pub any_none : false ≡ any_root_pair (pairs_in store places 0)
  unfolding pairs_in any_root_pair
  any_none = refl

  pub any_end : (n i : ℕ) → n ≤ i → i ≤ n → false ≡ any_root_pair (pairs_in store places i) → false ≡ any_root_pair (pairs_in store places n)
  any_end n i h k e = let z : i ≡ n = omega arith in rw z at e

pub ruleset rooting = (any_found, any_on, any_none, any_end)

-- Lemmas for `fill_element_counts`.
module _ (store : Text) (places : List ℕ) where
  key_known : (i e : ℕ) (k : Text) → k ≡ key_at store places false i → e ≡ element_count k → e ≡ source_elements store places i
  unfolding source_elements
  key_known i e k h m = m ∙ ap element_count (h ∙ sym (source_key store places i))

  pub counted_none : (keys : List ℕ) → HoldsElementCounts store places 0 keys
  unfolding HoldsElementCounts
  counted_none keys i h = absurd (omega arith)

  pub most_none : 0 ≡ max_elements store places 0
  unfolding max_elements
  most_none = refl

  pub counted_on : (n : ℕ) (keys : List ℕ) (e : ℕ) (k : Text) → n < length keys → k ≡ key_at store places false n → e ≡ element_count k → HoldsElementCounts store places n keys
      → HoldsElementCounts store places (n + 1) (set keys n e)
  unfolding HoldsElementCounts
  counted_on n keys e k l h m f i j = elim (ℕ_discrete i n) [
    | yes z ↦ rw z (get_or-set_same keys n e 0 l ∙ key_known n e k h m)
    | no z ↦ get_or-set_other keys n i e 0 z ∙ f i (omega arith)
  ]

  pub most_on : (n top top' e : ℕ) (k : Text) → k ≡ key_at store places false n → e ≡ element_count k → top' ≡ max top e → top ≡ max_elements store places n
      → top' ≡ max_elements store places (n + 1)
  unfolding max_elements
  most_on n top top' e k h m g f = rw (add-one n, ← f, ← key_known n e k h m) g

  pub counted_at : (n : ℕ) (keys : List ℕ) (i : ℕ) → i < n → HoldsElementCounts store places n keys → get_or keys i 0 ≡ source_elements store places i
  unfolding HoldsElementCounts
  counted_at n keys i h f = f i h

  pub counted_end : (n i : ℕ) (keys : List ℕ) → n ≤ i → HoldsElementCounts store places i keys → HoldsElementCounts store places n keys
  unfolding HoldsElementCounts
  counted_end n i keys h f j l = f j (omega arith)

  pub most_end : (n i top : ℕ) → n ≤ i → i ≤ n → top ≡ max_elements store places i → top ≡ max_elements store places n
  most_end n i top h k e = let z : i ≡ n = omega arith in rw z at e

-- Lemmas for `is_redundant`.
module _ (store : Text) (kept : List ℕ) (n : ℕ) (mark : Bool) (s t : Text) (f : Option ℕ) (h : f ≡ longest_match s (key_at store kept false) n) where
  abbrev lent : Map
  lent = lent_map store kept n mark

  abbrev x : Pair
  x = record { source = s; target = t }

  implied_by : (o : Option ℕ) → longest_match s (key_at store kept false) n ≡ o → is_redundant lent x ≡ is_some_text (map_via_pair lent s o) t
  unfolding is_redundant map_via
  implied_by o e = rw (out_keys store kept n mark s, e) refl

  module _ (idx : ℕ) (k : f ≡ Some idx) where
    chosen : longest_match s (key_at store kept false) n ≡ Some idx
    chosen = sym h ∙ k

    serving : matches s (key_at store kept false idx) ≡ true
    unfolding longest_match
    serving = (chosen_best (matches s) (key_at store kept false) n idx chosen).does_pass

    pub implied_inside : (old : Text) → old ≡ key_at store kept false idx → length old ≤ length s
    implied_inside old e = rw e (matched_long s (key_at store kept false idx) serving)

    pub implied_join : (old new : Text) → old ≡ key_at store kept false idx → new ≡ key_at store kept true idx → (r : Bool)
        → r ≡ equal (join old new (take (length s - length old) (drop (length old) s))) t → r ≡ is_redundant lent x
    unfolding is_some_text map_via_pair
    implied_join old new e g r m =
        let z = ends_by store kept n mark s false idx chosen in
        let p : replace_prefix s (map_source lent idx) (map_target lent idx) ≡ Some (join old new (drop (length old) s))
        = rw (z.0, z.1, ← e, ← g) (replace_prefix_lem s old new (rw (← e) at (served s (key_at store kept false idx) serving))) in
        m ∙ rw (rest_whole s (length old)) (sym (implied_by (Some idx) chosen ∙ rw p refl))

  module _ (k : f ≡ None) where
    left_out : longest_match s (key_at store kept false) n ≡ None
    left_out = sym h ∙ k

    pub implied_none : not mark ≡ true → false ≡ is_redundant lent x
    unfolding is_some_text map_via_pair
    implied_none l = sym (implied_by None left_out ∙ rw (not_true mark l) refl)

    pub implied_mark : not mark ≡ false → (r : Bool) → r ≡ equal s t → r ≡ is_redundant lent x
    unfolding is_some_text map_via_pair
    implied_mark l r m = m ∙ sym (implied_by None left_out ∙ rw (not_false mark l) refl)

-- Lemmas for `keep_pair`.
module _ (store : Text) (places : List ℕ) (i key e : ℕ) (implies : Map → Pair → Bool) (mark : Bool) (kept : List ℕ) (w : ℕ) where
  abbrev pair : Pair
  pair = pair_in store places i

  abbrev Leaves : ℕ → List ℕ → Type 0
  Leaves r kept' =
      (r ≡ cond (keeps_pair implies store places i key e mark kept w) (w + 1) w) × (kept' ≡ cond (keeps_pair implies store places i key e mark kept w) (copy_entry places i w kept) kept)

  pub pair_other : key ≢ e → Leaves w kept
  unfolding keeps_pair
  pair_other k = rw (ne_eqb key e k) (refl, refl)

  module _ (k : key ≡ e) (b : Bool) (r : b ≡ is_root_pair pair) where
    pub pair_roots : b ≡ true → Leaves w kept
    unfolding keeps_pair
    pair_roots l = rw (eq-eqb key e k, told r l) (refl, refl)

    module _ (l : b ≡ false) (s t : Text) (f : s ≡ key_at store places false i) (g : t ≡ key_at store places true i) (c : Bool)
        (m : c ≡ implies (lent_map store kept w mark) (record { source = s; target = t })) where
      keeps_unless : keeps_pair implies store places i key e mark kept w ≡ not c
      unfolding keeps_pair
      keeps_unless =
          let z : c ≡ implies (lent_map store kept w mark) pair = m ∙ ap (λ (x : Pair). implies (lent_map store kept w mark) x) (pair_is store places i s t f g) in
          rw (eq-eqb key e k, told r l, ← z) refl

      pub pair_implied : c ≡ true → Leaves w kept
      pair_implied n = rw (keeps_unless, n) (refl, refl)

      pub pair_kept : c ≡ false → (kept' : List ℕ) → kept' ≡ copy_entry places i w kept → Leaves (w + 1) kept'
      pair_kept n kept' p = rw (keeps_unless, n) (refl, p)

-- For at most 64 pairs that the slice holds, the selected pairs are those of the map, for any canonical form.
pub pairs_made : (form : Bool → List Pair → List Pair) (store : Text) (places : List ℕ) (n : ℕ) (l : List Pair) (mark : Bool) → n ≤ 64 → n ≤ length places / 4 → (marked : Bool) → marked ≡ (mark || any_root_pair l)
    → (room : ℕ) → room ≡ 256 → (kept : List ℕ) (w : ℕ) → pairs_in store kept w ≡ pairs_if_selectable (lent_list store places n) room (form marked (without_root_pairs l))
    → pairs_in store kept w ≡ (from_parts_by form l mark).pairs
unfolding pairs_if_selectable can_select count_within_limit
pairs_made form store places n l mark few held marked f room enough kept w c =
    c ∙ rw (le-leb n 64 few, le-leb n (length places / 4) held, le-leb 256 room (omega (arith, enough))) (ap (λ (b : Bool). form b (without_root_pairs l)) f)
