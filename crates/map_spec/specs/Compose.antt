-- Meaning: The composition of two maps. It composes pairs, not functions, so the result may differ from applying one map after the other. OpenUSD:
-- PcpMapFunction::Compose.
use Rattle.std.specs.Option.{unwrap_or}
use Rattle.std.specs.Prelude.{Bool, true, false, cond, ◌&&◌, ◌||◌, List, [], ◌∷◌, ◌++◌, map, Option, Some, None}
use Rattle.text.specs.Text.{Text, is_nil, equal}
use Rattle.pair_list.specs.Pair.{Pair}
use Rattle.map_spec.specs.Map.{Map, map_source_to_target, map_target_to_source}
use Rattle.map_spec.specs.New.{from_parts}

-- The inner pair with its target mapped through the outer map. A target that does not map becomes empty, so that the source stays
-- unmappable instead of falling back to a shorter pair. Requirements: "a None target becomes an empty one".
unfoldable pub composed_pair : Map → Pair → Pair
unfolding map_source_to_target
composed_pair outer x = record { source = x.source; target = cond (is_nil x.target) [] (unwrap_or (map_source_to_target outer x.target) []) }

-- Some pair has the source s.
unfoldable pub has_source : List Pair → Text → Bool
unfolding equal
has_source [] s = false
has_source (x ∷ xs) s = equal x.source s || has_source xs s

-- The list with the pair of s and t appended, if there is an s and no pair has that source yet.
unfoldable pub add_if_new_source : List Pair → Text → Option Text → List Pair
unfolding has_source
add_if_new_source l t None = l
add_if_new_source l t (Some s) = cond (has_source l s) l (l ++ record { source = s; target = t } ∷ [])

-- The list with the outer pairs appended, each with its source mapped back through the inner map; a pair whose source does not map back, or
-- maps to a source already in the list, is left out.
unfoldable pub pulled_back : Map → List Pair → List Pair → List Pair
unfolding add_if_new_source map_target_to_source
pulled_back inner l [] = l
pulled_back inner l (x ∷ xs) = pulled_back inner (add_if_new_source l x.target (map_target_to_source inner x.source)) xs

-- The list has no pairs.
abbrev pub is_empty : List Pair → Bool
is_empty [] = true
is_empty (x ∷ xs) = false

-- The map has the mark and no pairs: it is the identity on paths, whatever its time offset (Rust: path_is_identity).
abbrev pub is_path_identity : Map → Bool
is_path_identity m = is_empty m.pairs && m.mark

-- The composed pairs before redundant ones are dropped.
unfoldable pub composed_pairs : Map → Map → List Pair
unfolding pulled_back composed_pair
composed_pairs outer inner = pulled_back inner (map (composed_pair outer) inner.pairs) outer.pairs

-- The composition of an outer and an inner map (Rust: compose). If one of them is the identity on paths, the result is the other.
unfoldable pub compose : Map → Map → Map
unfolding composed_pairs from_parts
compose outer inner =
    cond (is_path_identity outer) inner
    (cond (is_path_identity inner) outer (from_parts (composed_pairs outer inner) (outer.mark && inner.mark)))
