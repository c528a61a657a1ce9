-- Meaning: Maps derived from other maps.
use Rattle.std.specs.Option.{unwrap_or}
use Rattle.std.specs.Prelude.{ℕ, Bool, true, false, cond, ◌||◌, List, [], ◌∷◌, map, Option, Some, None}
use Rattle.text.specs.Text.{Text, equal}
use Rattle.path_prefix.specs.Prefix.{has_prefix}
use Rattle.path_join.specs.Join.{replace_prefix}
use Rattle.path_parts.specs.Strip.{strip}
use Rattle.pair_list.specs.Pair.{Pair}
use Rattle.pair_list.specs.LongestMatch.{longest_by}
use Rattle.map_spec.specs.Map.{Map, map_source, map_target, map_size}
use Rattle.map_spec.specs.New.{from_parts, from_pair_identity}
use Rattle.map_spec.specs.Compose.{has_source, is_path_identity, compose}

-- The pairs whose source is not s.
unfoldable pub without_source : Text → List Pair → List Pair
unfolding equal
without_source s [] = []
without_source s (x ∷ xs) = cond (equal x.source s) (without_source s xs) (x ∷ without_source s xs)

-- The map without the pairs whose source is s; unchanged if there is no such pair (Rust: dropping_source).
unfoldable pub dropping_source : Map → Text → Map
unfolding has_source without_source from_parts
dropping_source m s = cond (has_source m.pairs s) (from_parts (without_source s m.pairs) m.mark) m

-- The pair with its ends exchanged.
abbrev pub swapped_pair : Pair → Pair
swapped_pair x = record { source = x.target; target = x.source }

-- The map with the ends of each pair exchanged (Rust: inverse). OpenUSD: PcpMapFunction::GetInverse.
unfoldable pub inverse : Map → Map
unfolding from_parts
inverse m = from_parts (map (λ (x : Pair). swapped_pair x) m.pairs) m.mark

-- The map with the mark set. Requirements: "`with_root_identity` drops nothing." OpenUSD: PcpMapFunction::AddRootIdentity.
unfoldable pub with_root_identity : Map → Map
with_root_identity m = record { pairs = m.pairs; mark = true }

-- The pair with the prefix `from` of its target replaced by `to`; unchanged if the target does not have that prefix.
abbrev pub rebased_pair : Text → Text → Pair → Pair
unfolding replace_prefix
rebased_pair from to x = record { source = x.source; target = unwrap_or (replace_prefix x.target from to) x.target }

-- Some target has the prefix `from`.
unfoldable pub any_target_below : Text → List Pair → Bool
unfolding has_prefix
any_target_below from [] = false
any_target_below from (x ∷ xs) = has_prefix x.target from || any_target_below from xs

-- The map with its targets moved from `from` to `to` (Rust: rebase_target). If the map is the identity on paths, it becomes the pair of
-- `from` and `to` with the mark; if no target has the prefix `from`, it is unchanged.
unfoldable pub rebase_target : Map → Text → Text → Map
unfolding any_target_below rebased_pair from_parts from_pair_identity
rebase_target m from to =
    cond (is_path_identity m) (from_pair_identity (record { source = from; target = to }))
    (cond (any_target_below from m.pairs) (from_parts (map (λ (x : Pair). rebased_pair from to x) m.pairs) m.mark) m)

-- The pair of `node` and `below` in place of a pair whose source is `above`; any other pair unchanged.
abbrev pub deepened_pair : Text → Text → Text → Pair → Pair
unfolding equal
deepened_pair node above below x = cond (equal x.source above) (record { source = node; target = below }) x

-- The map deepened by pair i, the class pair. Its source is a prefix of the node, so that its target always yields a path for the node and
-- the default `[]` is never used.
abbrev pub deepen_by : Map → Text → Option ℕ → Map
unfolding deepened_pair replace_prefix from_parts
deepen_by m node None = m
deepen_by m node (Some i) =
    from_parts (map (λ (x : Pair). deepened_pair node (map_source m i) (unwrap_or (replace_prefix node (map_source m i) (map_target m i)) []) x) m.pairs) m.mark

-- The map deepened to a path without its selections, the node (Rust: deepen_to). The class pair is the one whose source is a prefix of the
-- node and has most elements, the later on a tie; an empty source counts here. If some pair has the node as its source, the map is
-- unchanged. Requirements, on empty sources: "only `best_prefix` skips it."
unfoldable pub deepen_to : Map → Text → Map
unfolding has_source deepen_by longest_by has_prefix strip
deepen_to m path = cond (has_source m.pairs (strip path)) m (deepen_by m (strip path) (longest_by (has_prefix (strip path)) (map_source m) (map_size m)))

-- The class map implied across a transfer map: transfer after class after the inverse of transfer, with the mark set (Rust: implied_class,
-- for a transfer that is not the identity in paths and time; for the identity the Rust returns the class map). OpenUSD: the implied class
-- of an arc.
unfoldable pub implied_class : Map → Map → Map
unfolding compose inverse with_root_identity
implied_class transfer class = with_root_identity (compose transfer (compose class (inverse transfer)))
