-- Meaning: Path maps. Requirements: "A map is a list of pairs, a root-identity mark and a time offset." The time offset does not affect where a path
-- is mapped, so it is kept apart. OpenUSD: PcpMapFunction.
use Rattle.std.specs.Prelude.{ℕ, Bool, true, false, cond, List, eqb, length, Option, Some, None}
use Rattle.text.specs.Text.{Text, is_nil}
use Rattle.path_join.specs.Join.{replace_prefix}
use Rattle.path_parts.specs.Strip.{strip}
use Rattle.pair_list.specs.Pair.{Pair, source_at, target_at}
use Rattle.pair_list.specs.Places.{pairs_in}
use Rattle.pair_list.specs.LongestMatch.{longest_match}

-- A map without its time offset.
pub record Map : Type 0 where
  pub pairs : List Pair
  -- The root-identity mark: paths that no pair matches map to themselves. It is a flag rather than a pair `/`→`/`, so that the
  -- invertibility check of translation sees only real pairs.
  pub mark : Bool

-- The map in lent memory: the first n pairs, and the mark.
abbrev pub lent_map : Text → List ℕ → ℕ → Bool → Map
lent_map store places n mark = record { pairs = pairs_in store places n; mark = mark }

-- The source of pair i.
abbrev pub map_source : Map → ℕ → Text
map_source m i = source_at m.pairs i

-- The target of pair i.
abbrev pub map_target : Map → ℕ → Text
map_target m i = target_at m.pairs i

-- The number of pairs.
abbrev pub map_size : Map → ℕ
map_size m = length m.pairs

-- The pair that matches a path on the way out: the longest match among the sources.
unfoldable pub match_source : Map → Text → Option ℕ
unfolding longest_match
match_source m p = longest_match p (map_source m) (map_size m)

-- The pair that matches a path on the way home: the longest match among the targets.
unfoldable pub match_target : Map → Text → Option ℕ
unfolding longest_match
match_target m q = longest_match q (map_target m) (map_size m)

-- The path p mapped by the selected pair, from the ends a to the ends b. A pair with an empty target is a block: it makes the paths below
-- its source unmappable. Requirements: "an empty target gives no path. With no pair, the mark returns the path itself."
abbrev pub map_by : Map → (ℕ → Text) → (ℕ → Text) → Text → Option ℕ → Option Text
map_by m a b p None = cond m.mark (Some p) None
map_by m a b p (Some i) = cond (is_nil (map_target m i)) None (replace_prefix p (a i) (b i))

-- Plain mapping (Rust: map_source_to_target). Requirements: "Plain mapping is `map_source_to_target`".
unfoldable pub map_source_to_target : Map → Text → Option Text
unfolding match_source replace_prefix
map_source_to_target m p = map_by m (map_source m) (map_target m) p (match_source m p)

-- Plain mapping backwards (Rust: map_target_to_source). Requirements: "plainly back is `map_target_to_source`, whose keys are the targets."
unfoldable pub map_target_to_source : Map → Text → Option Text
unfolding match_target replace_prefix
map_target_to_source m q = map_by m (map_target m) (map_source m) q (match_target m q)

-- The two selected pairs are the same, or no pair is selected in either case.
abbrev pub eq_index : Option ℕ → Option ℕ → Bool
eq_index None None = true
eq_index None (Some j) = false
eq_index (Some i) None = false
eq_index (Some i) (Some j) = eqb i j

-- The invertibility check: mapping the result q backwards must select the same pair i, or no pair if none was used.
unfoldable pub require_invertible : Map → Option ℕ → Option Text → Option Text
unfolding match_target
require_invertible m i None = None
require_invertible m i (Some q) = cond (eq_index i (match_target m q)) (Some q) None

-- Translation (Rust: translate_to_target). Requirements: "`translate_to_target` strips selections, maps, then gives no path if plain
-- mapping backwards would take another pair for the result, or any pair where none was used." OpenUSD: PcpTranslatePathFromNodeToRoot.
unfoldable pub translate_to_target : Map → Text → Option Text
unfolding require_invertible match_source map_source_to_target strip
translate_to_target m p = require_invertible m (match_source m (strip p)) (map_source_to_target m (strip p))
