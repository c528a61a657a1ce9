-- Meaning: The `compose` call: validation, then the composed map.
use Rattle.std.specs.Prelude.{◌≡◌, true, cond, ◌&&◌, List, [], ◌∷◌, ℕ}
use Rattle.text.specs.Text.{Text}
use Rattle.layer_offset.specs.declared.LayerOffset.{LayerOffset}
use Rattle.layer_offset.specs.Offset.{identity_offset, is_identity, concatenate_offsets}
use Rattle.pair_list.specs.Pair.{all_ends}
use Rattle.refusal.specs.Refusal.{refused_or}
use Rattle.refusal.specs.declared.Refusal.TheVariants.{MadeIllegal}
use Rattle.validate.specs.Validate.{validate_call}
use Rattle.map_spec.specs.Map.{Map}
use Rattle.map_spec.specs.Compose.{is_path_identity, composed_pairs, compose}
use Rattle.map_function.specs.declared.MapFunction.{MapFunction}
use Rattle.map_function.specs.MapFunction.{list_of, map_of}
use Rattle.map_function.specs.MapOutcome.{MapOutcome, map, refused, without_dropping}
use Rattle.pair_buffer.specs.Ends.{from_ends}

-- The time offset of a composed map. Requirements: "Two identity offsets compose to exactly (0, 1)."
unfoldable pub composed_time : LayerOffset → LayerOffset → LayerOffset
unfolding is_identity
composed_time outer inner = cond (is_identity outer && is_identity inner) identity_offset (concatenate_offsets outer inner)

-- The composed time offset of two maps.
abbrev pub composed_time_of : MapFunction → MapFunction → LayerOffset
composed_time_of outer inner = composed_time outer.time_offset inner.time_offset

-- Two maps, neither of them the identity on paths: questions 4, 5, 7 and 8 for the composed list. Requirements: "a None target becomes an
-- empty one, so 6 never comes there". Question 8 never fails: `composed_ends` (proofs/ComposedEnds.antt).
unfoldable pub compose_lists : Map → Map → LayerOffset → Text → List ℕ → MapOutcome
unfolding composed_pairs from_ends
compose_lists outer inner time out slots = from_ends (composed_pairs outer inner) (outer.mark && inner.mark) time out slots

-- The composed map: if one map is the identity on paths, the other one unchanged; in each case with the composed time offset.
unfoldable pub compose_outcome : Map → Map → LayerOffset → Text → List ℕ → MapOutcome
unfolding without_dropping compose_lists
compose_outcome outer inner time out slots =
    cond (is_path_identity outer) (without_dropping inner.pairs inner.mark time out slots)
    (cond (is_path_identity inner) (without_dropping outer.pairs outer.mark time out slots) (compose_lists outer inner time out slots))

-- If the call returns a map, it is the composed one (proved in proofs/CallBranches.antt).
abbrev pub ComposesTo : Type 0
ComposesTo = (outer inner m : Map) (time t : LayerOffset) (out : Text) (slots : List ℕ) → compose_outcome outer inner time out slots ≡ map m t → m ≡ compose outer inner

-- The `compose` call; the outer map is given first. (Rust: compose)
unfoldable pub compose_call : Text → List ℕ → MapFunction → Text → List ℕ → MapFunction → Text → List ℕ → MapOutcome
unfolding validate_call compose_outcome composed_time
compose_call store places outer istore iplaces inner out slots =
    refused_or (validate_call (list_of store places outer ∷ list_of istore iplaces inner ∷ []) [] []) refused
    (compose_outcome (map_of store places outer) (map_of istore iplaces inner) (composed_time_of outer inner) out slots)

-- Every end of a composed list is a prim path, `/` or empty, so question 8 never fails (proved in proofs/ComposedEnds.antt).
abbrev pub ComposedEnds : Type 0
ComposedEnds = (outer inner : Map) → all_ends outer.pairs ≡ true → all_ends inner.pairs ≡ true → all_ends (composed_pairs outer inner) ≡ true

-- No `compose` call is refused with 8 (proved in proofs/NeverIllegal.antt).
abbrev pub ComposeNeverIllegal : Type 0
ComposeNeverIllegal = (store : Text) (places : List ℕ) (outer : MapFunction) (istore : Text) (iplaces : List ℕ) (inner : MapFunction) (out : Text) (slots : List ℕ)
    → compose_call store places outer istore iplaces inner out slots ≡ refused MadeIllegal → ⊥
