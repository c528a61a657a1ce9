-- Meaning: The calls that build a map from one map: validation in the order of the questions, then the result.
use Rattle.std.specs.Prelude.{ℕ, Bool, true, not, ◌&&◌, List, [], ◌∷◌, map, Result, Ok, Err}
use Rattle.text.specs.Text.{Text, equal}
use Rattle.layer_offset.specs.Offset.{is_identity, identity_offset}
use Rattle.pair_list.specs.Pair.{Pair}
use Rattle.refusal.specs.Refusal.{refused_or}
use Rattle.validate.specs.Validate.{pairs_of, validate_call}
use Rattle.map_spec.specs.Derive.{without_source, dropping_source, swapped_pair, inverse, with_root_identity}
use Rattle.map_function.specs.declared.MapFunction.{MapFunction}
use Rattle.map_function.specs.MapFunction.{is_null, list_of, map_of}
use Rattle.map_function.specs.MapOutcome.{MapOutcome, within_limits}
use Rattle.map_new.specs.Calls.{make_map}
use Rattle.refusal.specs.declared.Refusal.{Refusal}

-- The call `inverse`. Requirements: "`inverse` always sets the time offset to (0, 1)."
unfoldable pub inverse_call : Text → List ℕ → MapFunction → Text → List ℕ → MapOutcome
unfolding validate_call within_limits inverse
inverse_call store places f out slots =
    make_map (validate_call (list_of store places f ∷ []) [] []) (map (λ (x : Pair). swapped_pair x) (pairs_of (list_of store places f))) (inverse (map_of store places f)) identity_offset out slots

-- The call `with_root_identity`. Requirements: "`with_root_identity` drops nothing."
unfoldable pub with_root_identity_call : Text → List ℕ → MapFunction → Text → List ℕ → MapOutcome
unfolding validate_call within_limits with_root_identity
with_root_identity_call store places f out slots =
    make_map (validate_call (list_of store places f ∷ []) [] []) (pairs_of (list_of store places f)) (with_root_identity (map_of store places f)) f.time_offset out slots

-- The call `dropping_source`. Questions 4 and 5 apply to the list without that source. Requirements: "The paths given to `dropping_source`
-- .. count as ends."
unfoldable pub dropping_source_call : Text → List ℕ → MapFunction → Text → Text → List ℕ → MapOutcome
unfolding validate_call within_limits without_source dropping_source
dropping_source_call store places f s out slots =
    make_map (validate_call (list_of store places f ∷ []) (s ∷ []) (s ∷ [])) (without_source s (pairs_of (list_of store places f))) (dropping_source (map_of store places f) s)
    f.time_offset out slots

-- Every pair has equal ends.
unfoldable pub all_ends_equal : List Pair → Bool
unfolding equal
all_ends_equal [] = true
all_ends_equal (x ∷ xs) = equal x.source x.target && all_ends_equal xs

-- The call `is_noop`: the map is not null and changes neither paths nor times.
unfoldable pub is_noop_call : Text → List ℕ → MapFunction → Result Bool Refusal
unfolding validate_call is_null all_ends_equal is_identity
is_noop_call store places f =
    refused_or (validate_call (list_of store places f ∷ []) [] []) Err
    (Ok (not (is_null f) && (all_ends_equal (pairs_of (list_of store places f)) && is_identity f.time_offset)))
