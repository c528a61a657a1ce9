-- Meaning: A relocate's status: whether a pair written into a layer stack takes part in composition. OpenUSD: Pcp_ComputeRelocationsForLayerStack.
use Rattle.std.specs.Prelude.{ℕ, zero, suc, Bool, false, not, cond, ◌&&◌, ◌||◌, List, [], ◌∷◌, ◌++◌, eqb, length}
use Rattle.text.specs.Text.{Text, is_nil, equal}
use Rattle.text.specs.Bytes.{slash}
use Rattle.path_prefix.specs.Prefix.{has_prefix}
use Rattle.path_prefix.specs.Elements.{count_elements, prim_element_count}
use Rattle.pair_list.specs.Pair.{Pair, pair, pair_at}
use Rattle.map_spec.specs.Map.{Map}
use Rattle.map_spec.specs.New.{new}
use Rattle.relocates.specs.declared.RelocateOccurrence.{RelocateOccurrence}
use Rattle.relocates.specs.declared.RelocateOccurrence.TheVariants.{Active, DroppedStructural, DroppedDuplicateSource, DroppedConflict}

-- The status byte of an occurrence. Requirements: "a status byte: 0 Active, 1 structural, 2 duplicate source, 3 conflict".
abbrev pub status_byte : RelocateOccurrence → ℕ
status_byte Active = 0
status_byte DroppedStructural = 1
status_byte DroppedDuplicateSource = 2
status_byte DroppedConflict = 3

-- Whether the test passes for some index below n.
unfoldable pub any_below : ℕ → (ℕ → Bool) → Bool
any_below zero passes = false
any_below (suc n) passes = any_below n passes || passes n

-- Whether a pair is structurally invalid, and so dropped whatever the other pairs are. Requirements: "An empty target is never structural.
-- Otherwise structural means: the source has one name; the ends are equal; or one is a prefix of the other." (Rust:
-- relocate_invalid_reason)
unfoldable pub is_structural : Pair → Bool
unfolding count_elements equal has_prefix
is_structural x =
    not (is_nil x.target)
    && (eqb (prim_element_count x.source) 1 || equal x.source x.target || has_prefix x.source x.target || has_prefix x.target x.source)

-- Whether x is a non-structural pair with the source s, so that later pairs with this source are duplicates.
unfoldable pub claims_source : Pair → Text → Bool
unfolding is_structural equal
claims_source x s = not (is_structural x) && equal x.source s

-- Whether an earlier pair that counts has the source of the pair at i; `counts` says which pairs count, by their indices.
unfoldable pub is_duplicate_among : (ℕ → Bool) → List Pair → ℕ → Bool
unfolding any_below equal
is_duplicate_among counts l i = any_below i (λ (k : ℕ). counts k && equal (pair_at l k).source (pair_at l i).source)

-- Whether the pair at i is a duplicate. Requirements: "2: an earlier non-structural pair has this source." (Rust: duplicate_source_mask)
unfoldable pub is_duplicate : List Pair → ℕ → Bool
unfolding is_structural is_duplicate_among
is_duplicate l i = is_duplicate_among (λ (k : ℕ). not (is_structural (pair_at l k))) l i

-- Whether the pair at i takes part in the search for conflicts. Requirements: "pairs neither 1 nor 2".
unfoldable pub can_conflict : List Pair → ℕ → Bool
unfolding is_structural is_duplicate
can_conflict l i = not (is_structural (pair_at l i)) && not (is_duplicate l i)

-- Whether two texts are equal and not empty.
unfoldable pub equal_non_empty : Text → Text → Bool
unfolding equal
equal_non_empty a b = not (is_nil b) && equal a b

-- Whether pair a conflicts with pair b: a's target is b's source or lies below it, a's source is b's target, or a's source lies below b's
-- source. Requirements: "or gives a reason in `relocate_pair_conflicts`".
unfoldable pub pair_conflicts : Pair → Pair → Bool
unfolding equal_non_empty equal has_prefix
pair_conflicts a b =
    not (is_nil a.target) && has_prefix a.target b.source
    || equal_non_empty a.source b.target
    || not (equal a.source b.source) && has_prefix a.source b.source

-- Whether pair b is a reason to drop pair a: "another has the same non-empty target", or `pair_conflicts`.
unfoldable pub conflicts_with : Pair → Pair → Bool
unfolding equal_non_empty pair_conflicts
conflicts_with a b = equal_non_empty a.target b.target || pair_conflicts a b

-- Whether the pair at i conflicts with another pair that takes part in the search; `takesPart` says which pairs do, by their indices.
unfoldable pub has_conflict_among : (ℕ → Bool) → List Pair → ℕ → Bool
unfolding any_below conflicts_with
has_conflict_among takesPart l i = any_below (length l) (λ (j : ℕ). not (eqb i j) && takesPart j && conflicts_with (pair_at l i) (pair_at l j))

-- Whether the pair at i conflicts with another pair. Requirements: "3: among pairs neither 1 nor 2, another has the same non-empty target
-- or gives a reason"; "A pair that is itself 3 still conflicts with others."
unfoldable pub has_conflict : List Pair → ℕ → Bool
unfolding can_conflict has_conflict_among
has_conflict l i = has_conflict_among (can_conflict l) l i

-- The status of the pair at i: structural, duplicate, or otherwise `kept`.
unfoldable pub occurrence_or : RelocateOccurrence → List Pair → ℕ → RelocateOccurrence
unfolding is_structural is_duplicate
occurrence_or kept l i = cond (is_structural (pair_at l i)) DroppedStructural (cond (is_duplicate l i) DroppedDuplicateSource kept)

-- The status of the pair at i. (Rust: analyze_relocate_occurrences)
unfoldable pub occurrence : List Pair → ℕ → RelocateOccurrence
unfolding occurrence_or has_conflict
occurrence l i = occurrence_or (cond (has_conflict l i) DroppedConflict Active) l i

-- The status bytes that f yields for the indices below n, in order.
abbrev pub status_bytes : (ℕ → RelocateOccurrence) → ℕ → List ℕ
status_bytes f zero = []
status_bytes f (suc n) = status_bytes f n ++ status_byte (f n) ∷ []

-- The status bytes of the first n pairs.
unfoldable pub status_list : List Pair → ℕ → List ℕ
unfolding occurrence
status_list l n = status_bytes (occurrence l) n

-- The Active pairs among the first n, in order.
unfoldable pub active_pairs : List Pair → ℕ → List Pair
unfolding occurrence
active_pairs l zero = []
active_pairs l (suc n) = cond (eqb (status_byte (occurrence l n)) 0) (active_pairs l n ++ pair_at l n ∷ []) (active_pairs l n)

-- The pair `/`→`/`.
abbrev pub root_pair : Pair
root_pair = pair (slash ∷ []) (slash ∷ [])

-- The map of a relocate list. Requirements: "a relocate list standing for `new` of its Active pairs and `/`→`/`".
unfoldable pub relocate_map : List Pair → Map
unfolding active_pairs new
relocate_map l = new (active_pairs l (length l) ++ root_pair ∷ [])
