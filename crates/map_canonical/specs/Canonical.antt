-- Method: The pairs of a lent list that a map keeps, by their indices in the list. proofs/KeptLaws.antt proves that they are the pairs of the map.
use Rattle.std.specs.Prelude.{ℕ, zero, suc, max, ◌<◌, ◌≡◌, Bool, not, cond, ◌&&◌, List, [], ◌∷◌, ◌++◌, eqb, get_or}
use Rattle.text.specs.Text.{Text}
use Rattle.path_prefix.specs.Elements.{count_elements, element_count}
use Rattle.pair_list.specs.Pair.{Pair}
use Rattle.pair_list.specs.Places.{pair_in}
use Rattle.pair_list_write.specs.Select.{indices_where, selected_pairs}
use Rattle.validate.specs.Validate.{LentList}
use Rattle.validate.specs.Select.{can_select}
use Rattle.map_spec.specs.Map.{Map, lent_map}
use Rattle.map_spec.specs.New.{is_root_pair, is_redundant}
use Rattle.map_canonical.specs.ByKey.{with_key, by_key}

-- The number of elements of the source of pair i.
unfoldable pub source_elements : Text → List ℕ → ℕ → ℕ
unfolding count_elements pair_in
source_elements store places i = element_count (pair_in store places i).source

-- The maximum number of elements of the first n sources.
unfoldable pub max_elements : Text → List ℕ → ℕ → ℕ
unfolding source_elements
max_elements store places zero = 0
max_elements store places (suc n) = max (max_elements store places n) (source_elements store places n)

-- Those of the first n pairs that are not `/`→`/`.
unfoldable pub non_root_pairs : Text → List ℕ → ℕ → List ℕ
unfolding indices_where pair_in
non_root_pairs store places n = indices_where (λ (i : ℕ). not (is_root_pair (pair_in store places i))) n

-- Those of the first n pairs that are not `/`→`/` and whose source has e elements.
unfoldable pub non_root_with_elements : Text → List ℕ → ℕ → ℕ → List ℕ
unfolding with_key source_elements non_root_pairs
non_root_with_elements store places e n = with_key (source_elements store places) e (non_root_pairs store places n)

-- The kept pairs, followed by the other pairs in their order without the redundant ones. The test `implies` decides which are redundant, as
-- in `drop_redundant`.
unfoldable pub kept_indices : (Map → Pair → Bool) → Text → List ℕ → Bool → List ℕ → List ℕ → List ℕ
unfolding pair_in
kept_indices implies store places mark kept [] = kept
kept_indices implies store places mark kept (i ∷ rest) =
    kept_indices implies store places mark
    (cond (implies (record { pairs = selected_pairs store places kept; mark = mark }) (pair_in store places i)) kept (kept ++ i ∷ [])) rest

-- The pairs that a map keeps, in its order: fewer source elements first, and pairs with as many elements in the order of the list.
unfoldable pub canonical_indices : (Map → Pair → Bool) → Text → List ℕ → ℕ → Bool → List ℕ
unfolding kept_indices by_key source_elements max_elements non_root_pairs
canonical_indices implies store places n mark =
    kept_indices implies store places mark [] (by_key (source_elements store places) (suc (max_elements store places n)) (non_root_pairs store places n))

-- The pairs that a map keeps of a lent list; none if question 4 refuses the list, or if the buffer has no capacity for 64 pairs.
unfoldable pub kept_selection : (Map → Pair → Bool) → LentList → Bool → ℕ → List ℕ
unfolding can_select canonical_indices
kept_selection implies l mark room = cond (can_select l room) (canonical_indices implies l.store l.places l.count mark) []

-- The pairs that `canonicalize` keeps. Requirements: "a pair is dropped when the kept ones carry its source to its target textually".
abbrev pub canonical_selection : LentList → Bool → ℕ → List ℕ
canonical_selection l mark room = kept_selection is_redundant l mark room

-- An invariant of the code: the numbers `keys` are the element counts of the first n sources.
unfoldable pub HoldsElementCounts : Text → List ℕ → ℕ → List ℕ → Type 0
unfolding source_elements
HoldsElementCounts store places n keys = (i : ℕ) → i < n → get_or keys i 0 ≡ source_elements store places i

-- The code appends pair i, whose source has `key` elements, to the w kept pairs: `key` is e, the pair is not `/`→`/`, and the kept pairs do
-- not imply it.
unfoldable pub keeps_pair : (Map → Pair → Bool) → Text → List ℕ → ℕ → ℕ → ℕ → Bool → List ℕ → ℕ → Bool
unfolding pair_in
keeps_pair implies store places i key e mark kept w =
    eqb key e && (not (is_root_pair (pair_in store places i)) && not (implies (lent_map store kept w mark) (pair_in store places i)))
