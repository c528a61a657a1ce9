-- Meaning: The `deepen_to` call: validation, then the map.
use Rattle.std.specs.Option.{unwrap_or}
use Rattle.std.specs.Prelude.{◌≡◌, true, false, cond, List, [], ◌∷◌, map as mapped, ℕ, Option, Some, None}
use Rattle.text.specs.Text.{Text}
use Rattle.path_prefix.specs.Prefix.{has_prefix}
use Rattle.path_join.specs.Join.{replace_prefix}
use Rattle.path_parts.specs.Strip.{strip}
use Rattle.layer_offset.specs.declared.LayerOffset.{LayerOffset}
use Rattle.pair_list.specs.Pair.{Pair}
use Rattle.pair_list.specs.Places.{key_at}
use Rattle.pair_list.specs.LongestMatch.{longest_by}
use Rattle.refusal.specs.Refusal.{refused_or}
use Rattle.validate.specs.Validate.{validate_call}
use Rattle.map_spec.specs.Map.{Map, map_source, map_target, map_size}
use Rattle.map_spec.specs.Compose.{has_source}
use Rattle.map_spec.specs.Derive.{deepened_pair, deepen_to}
use Rattle.map_function.specs.declared.MapFunction.{MapFunction}
use Rattle.map_function.specs.MapFunction.{list_of, map_of}
use Rattle.map_function.specs.MapOutcome.{MapOutcome, map, refused, without_dropping}
use Rattle.pair_buffer.specs.Ends.{replaced_or_same, from_ends}

-- The pairs with each pair whose source is `above` (the class) replaced by the pair `node`→`below`.
abbrev pub deepened_pairs : Text → Text → Text → List Pair → List Pair
deepened_pairs node above below l = mapped (λ (x : Pair). deepened_pair node above below x) l

-- The map of the deepened pairs.
abbrev pub deepened_map : Map → Text → Text → Text → LayerOffset → Text → List ℕ → MapOutcome
deepened_map m node above below time out slots = from_ends (deepened_pairs node above below m.pairs) m.mark time out slots

-- The map in lent memory deepened at its pair i: `below` is the node with the source of the pair replaced by its target.
abbrev pub deepened_at : Text → List ℕ → MapFunction → Text → ℕ → Text → List ℕ → MapOutcome
deepened_at store places f node i out slots =
    deepened_map (map_of store places f) node (key_at store places false i) (replaced_or_same node (key_at store places false i) (key_at store places true i))
    f.time_offset out slots

-- The deepened map for the class found at index i; without a class, the map unchanged.
unfoldable pub deepen_outcome_by : Map → Text → Option ℕ → LayerOffset → Text → List ℕ → MapOutcome
unfolding without_dropping from_ends replace_prefix
deepen_outcome_by m node None time out slots = without_dropping m.pairs m.mark time out slots
deepen_outcome_by m node (Some i) time out slots =
    deepened_map m node (map_source m i) (unwrap_or (replace_prefix node (map_source m i) (map_target m i)) []) time out slots

-- The deepened map: unchanged if the node already is a source; otherwise deepened at the class, the pair whose source is a prefix of the
-- node with most elements. An empty source counts here: "only `best_prefix` skips it".
unfoldable pub deepen_outcome : Map → Text → LayerOffset → Text → List ℕ → MapOutcome
unfolding without_dropping deepen_outcome_by has_source longest_by has_prefix
deepen_outcome m node time out slots =
    cond (has_source m.pairs node) (without_dropping m.pairs m.mark time out slots)
    (deepen_outcome_by m node (longest_by (has_prefix node) (map_source m) (map_size m)) time out slots)

-- If the call returns a map, it is the deepened one (proved in proofs/DeepenBranches.antt).
abbrev pub DeepensTo : Type 0
DeepensTo = (m n : Map) (path : Text) (time t : LayerOffset) (out : Text) (slots : List ℕ) → deepen_outcome m (strip path) time out slots ≡ map n t → n ≡ deepen_to m path

-- The `deepen_to` call, which keeps the map's time offset. Requirements: "`deepen_to`'s node after stripping" counts as an end. (Rust:
-- deepen_to)
unfoldable pub deepen_to_call : Text → List ℕ → MapFunction → Text → Text → List ℕ → MapOutcome
unfolding validate_call deepen_outcome strip
deepen_to_call store places f path out slots =
    refused_or (validate_call (list_of store places f ∷ []) (path ∷ []) (strip path ∷ [])) refused
    (deepen_outcome (map_of store places f) (strip path) f.time_offset out slots)
