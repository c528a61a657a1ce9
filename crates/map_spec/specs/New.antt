-- Meaning: Building a map from pairs, in canonical form: root pairs become the mark, and redundant pairs are dropped. OpenUSD:
-- PcpMapFunction::Create.
use Rattle.std.specs.Prelude.{ℕ, Bool, true, false, cond, ◌&&◌, ◌||◌, List, [], ◌∷◌, ◌++◌, leb, Option, Some, None}
use Rattle.text.specs.Text.{Text, equal}
use Rattle.path_grammar.specs.Legal.{is_root}
use Rattle.path_prefix.specs.Elements.{count_elements, element_count}
use Rattle.path_join.specs.Join.{replace_prefix}
use Rattle.pair_list.specs.Pair.{Pair}
use Rattle.map_spec.specs.Map.{Map, map_source, map_target, match_source}

-- The pair is `/`→`/`. Requirements: "`new` turns each `/`→`/` into the mark."
abbrev pub is_root_pair : Pair → Bool
is_root_pair x = is_root x.source && is_root x.target

-- Some pair is `/`→`/`.
unfoldable pub any_root_pair : List Pair → Bool
any_root_pair [] = false
any_root_pair (x ∷ xs) = is_root_pair x || any_root_pair xs

-- The pairs that are not `/`→`/`.
unfoldable pub without_root_pairs : List Pair → List Pair
without_root_pairs [] = []
without_root_pairs (x ∷ xs) = cond (is_root_pair x) (without_root_pairs xs) (x ∷ without_root_pairs xs)

-- Inserts a pair into a sorted list, before the pairs whose source has as many elements or more.
unfoldable pub insert_sorted : Pair → List Pair → List Pair
unfolding count_elements
insert_sorted x [] = x ∷ []
insert_sorted x (y ∷ ys) = cond (leb (element_count x.source) (element_count y.source)) (x ∷ y ∷ ys) (y ∷ insert_sorted x ys)

-- The list sorted. Requirements: "pairs are sorted by source elements, stably".
unfoldable pub sort_by_source : List Pair → List Pair
unfolding insert_sorted
sort_by_source [] = []
sort_by_source (x ∷ xs) = insert_sorted x (sort_by_source xs)

-- The text p mapped textually by the selected pair. Requirements: "`map_via` joins text, so `/A`→empty takes `/A/B` to `/B` there."
unfoldable pub map_via_pair : Map → Text → Option ℕ → Option Text
unfolding replace_prefix
map_via_pair m p None = cond m.mark (Some p) None
map_via_pair m p (Some i) = replace_prefix p (map_source m i) (map_target m i)

-- The text p mapped textually by the pairs and the mark, to find redundant pairs (Rust: map_via).
unfoldable pub map_via : Map → Text → Option Text
unfolding map_via_pair match_source
map_via m p = map_via_pair m p (match_source m p)

-- The option holds the text t.
unfoldable pub is_some_text : Option Text → Text → Bool
unfolding equal
is_some_text None t = false
is_some_text (Some q) t = equal q t

-- The pair x is redundant beside the map m of the kept pairs. Requirements: "a pair is dropped when the kept ones carry its source to its
-- target textually".
unfoldable pub is_redundant : Map → Pair → Bool
unfolding is_some_text map_via
is_redundant m x = is_some_text (map_via m x.source) x.target

-- The kept pairs, followed by the other pairs in their order without the redundant ones. The test `implies` decides which are redundant: it
-- is given the map of the pairs kept so far and the mark, and a pair.
unfoldable pub drop_redundant : (Map → Pair → Bool) → Bool → List Pair → List Pair → List Pair
drop_redundant implies mark kept [] = kept
drop_redundant implies mark kept (x ∷ xs) =
    drop_redundant implies mark (cond (implies (record { pairs = kept; mark = mark }) x) kept (kept ++ x ∷ [])) xs

-- The pairs sorted, then without the redundant ones. Requirements: "pairs are sorted by source elements, stably, and a pair is dropped when
-- the kept ones ..".
unfoldable pub sort_and_drop : (Map → Pair → Bool) → Bool → List Pair → List Pair
unfolding drop_redundant sort_by_source
sort_and_drop implies mark l = drop_redundant implies mark [] (sort_by_source l)

-- The pairs in canonical form. Requirements: "A single pair stays unless marked and equal. Otherwise pairs are sorted ..".
unfoldable pub canonicalize : Bool → List Pair → List Pair
unfolding equal is_redundant sort_and_drop
canonicalize mark [] = []
canonicalize mark (x ∷ []) = cond (mark && equal x.source x.target) [] (x ∷ [])
canonicalize mark (x ∷ y ∷ l) = sort_and_drop is_redundant mark (x ∷ y ∷ l)

-- The map of these pairs and this mark: each `/`→`/` becomes the mark, and `form` brings the other pairs into canonical form.
abbrev pub from_parts_by : (Bool → List Pair → List Pair) → List Pair → Bool → Map
from_parts_by form l mark = record { pairs = form (mark || any_root_pair l) (without_root_pairs l); mark = mark || any_root_pair l }

-- The map of these pairs and this mark, in canonical form (Rust: from_parts).
unfoldable pub from_parts : List Pair → Bool → Map
unfolding any_root_pair without_root_pairs canonicalize
from_parts l mark = from_parts_by canonicalize l mark

-- The map of these pairs (Rust: new).
unfoldable pub new : List Pair → Map
unfolding from_parts
new l = from_parts l false

-- The map of one pair, unchanged and without the mark (Rust: from_pair).
unfoldable pub from_pair : Pair → Map
from_pair x = record { pairs = x ∷ []; mark = false }

-- The map of one pair and the mark (Rust: from_pair_identity).
unfoldable pub from_pair_identity : Pair → Map
unfolding from_parts
from_pair_identity x = from_parts (x ∷ []) true

-- The identity map: every path maps to itself.
abbrev pub identity_map : Map
identity_map = record { pairs = []; mark = true }

-- The null map: no path is mapped.
abbrev pub null_map : Map
null_map = record { pairs = []; mark = false }
