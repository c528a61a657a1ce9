-- Meaning: The `rebase_target` call: validation, then the map.
use Rattle.std.specs.Prelude.{◌≡◌, cond, List, [], ◌∷◌, map as mapped, ℕ}
use Rattle.text.specs.Text.{Text}
use Rattle.layer_offset.specs.declared.LayerOffset.{LayerOffset}
use Rattle.pair_list.specs.Pair.{Pair, pair}
use Rattle.refusal.specs.Refusal.{refused_or}
use Rattle.validate.specs.Validate.{validate_call}
use Rattle.map_spec.specs.Map.{Map}
use Rattle.map_spec.specs.New.{from_pair_identity}
use Rattle.map_spec.specs.Compose.{is_path_identity}
use Rattle.map_spec.specs.Derive.{rebased_pair, any_target_below, rebase_target}
use Rattle.map_function.specs.declared.MapFunction.{MapFunction}
use Rattle.map_function.specs.MapFunction.{list_of, map_of}
use Rattle.map_function.specs.MapOutcome.{MapOutcome, map, refused, within_limits, without_dropping}
use Rattle.pair_buffer.specs.Ends.{from_ends}

-- The pairs with each target below `from` moved below `to`.
abbrev pub rebased_pairs : Text → Text → List Pair → List Pair
rebased_pairs from to l = mapped (λ (x : Pair). rebased_pair from to x) l

-- The map of the rebased pairs.
abbrev pub rebased_map : Map → Text → Text → LayerOffset → Text → List ℕ → MapOutcome
rebased_map m from to time out slots = from_ends (rebased_pairs from to m.pairs) m.mark time out slots

-- The rebased map: the identity on paths becomes the single pair `from`→`to` beside the mark; a map with no target below `from` is
-- unchanged.
unfoldable pub rebase_outcome : Map → Text → Text → LayerOffset → Text → List ℕ → MapOutcome
unfolding within_limits without_dropping from_ends any_target_below from_pair_identity
rebase_outcome m from to time out slots =
    cond (is_path_identity m) (within_limits (pair from to ∷ []) (from_pair_identity (pair from to)) time out slots)
    (cond (any_target_below from m.pairs) (rebased_map m from to time out slots) (without_dropping m.pairs m.mark time out slots))

-- If the call returns a map, it is the rebased one (proved in proofs/CallBranches.antt).
abbrev pub RebasesTo : Type 0
RebasesTo = (m n : Map) (from to : Text) (time t : LayerOffset) (out : Text) (slots : List ℕ) → rebase_outcome m from to time out slots ≡ map n t → n ≡ rebase_target m from to

-- The `rebase_target` call, which keeps the map's time offset. Requirements: "The paths given to .. `rebase_target` .. count as ends."
-- (Rust: rebase_target)
unfoldable pub rebase_target_call : Text → List ℕ → MapFunction → Text → Text → Text → List ℕ → MapOutcome
unfolding validate_call rebase_outcome
rebase_target_call store places f from to out slots =
    refused_or (validate_call (list_of store places f ∷ []) (from ∷ to ∷ []) (from ∷ to ∷ [])) refused
    (rebase_outcome (map_of store places f) from to f.time_offset out slots)
