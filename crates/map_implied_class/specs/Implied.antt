-- Meaning: The `implied_class` call: three maps are constructed, each from the one before, and the questions are put to the lists of all three.
use Rattle.std.specs.Prelude.{◌≡◌, Bool, cond, ◌&&◌, List, [], ◌∷◌, ◌++◌, map as mapped, ℕ, leb, length}
use Rattle.text.specs.Text.{Text}
use Rattle.layer_offset.specs.declared.LayerOffset.{LayerOffset}
use Rattle.layer_offset.specs.Offset.{identity_offset}
use Rattle.pair_list.specs.Pair.{Pair}
use Rattle.pair_list.specs.Places.{pairs_in}
use Rattle.refusal.specs.Refusal.{refused_or}
use Rattle.refusal.specs.declared.Refusal.TheVariants.{TooMany, MadeIllegal}
use Rattle.validate.specs.Validate.{validate_call}
use Rattle.map_spec.specs.Map.{Map}
use Rattle.map_spec.specs.Compose.{is_path_identity, composed_pairs, compose}
use Rattle.map_spec.specs.Derive.{swapped_pair, inverse, implied_class}
use Rattle.map_function.specs.declared.MapFunction.{MapFunction}
use Rattle.map_function.specs.MapFunction.{is_identity_map, list_of, map_of}
use Rattle.map_function.specs.MapOutcome.{MapOutcome, map, refused, require_list_room, without_dropping}
use Rattle.pair_buffer.specs.Ends.{require_short, require_legal}
use Rattle.map_compose.specs.Calls.{composed_time}

-- The pairs with their ends exchanged: the list from which `inverse` starts dropping.
abbrev pub swapped_pairs : List Pair → List Pair
swapped_pairs l = mapped (λ (x : Pair). swapped_pair x) l

-- The list from which `compose` starts dropping: the composed pairs, or, if one map is the identity on paths, the other's own list.
-- Requirements: "where that isn't run, the list read or answered".
unfoldable pub composed_from : Map → Map → List Pair
unfolding composed_pairs
composed_from outer inner = cond (is_path_identity outer) inner.pairs (cond (is_path_identity inner) outer.pairs (composed_pairs outer inner))

-- The first list: that of the transfer's inverse.
abbrev pub inverse_list : Map → List Pair
inverse_list transfer = swapped_pairs transfer.pairs

-- The second list: that of the class map composed with the inverse.
unfoldable pub class_list : Map → Map → List Pair
unfolding composed_from inverse
class_list transfer class = composed_from class (inverse transfer)

-- The third list: that of the transfer composed with the second map.
unfoldable pub implied_list : Map → Map → List Pair
unfolding composed_from compose inverse
implied_list transfer class = composed_from transfer (compose class (inverse transfer))

-- The three lists, each as it is before redundant pairs are dropped. All questions of the call are put to this record.
pub record ImpliedLists : Type 0 where
  pub inverted : List Pair
  pub composed : List Pair
  pub implied : List Pair

abbrev pub implied_lists : Map → Map → ImpliedLists
implied_lists transfer class = record { inverted = inverse_list transfer; composed = class_list transfer class; implied = implied_list transfer class }

-- Question 4: each list has "at most 64 pairs".
abbrev pub all_within64 : ImpliedLists → Bool
all_within64 l = leb (length l.inverted) 64 && (leb (length l.composed) 64 && leb (length l.implied) 64)

-- The pairs whose ends were constructed: those of the second and the third list. The inverse has the transfer's own ends.
abbrev pub constructed_pairs : ImpliedLists → List Pair
constructed_pairs l = l.composed ++ l.implied

-- The map m with the questions put to the lists: question 4 to each, question 5 "over all three lists", then questions 7 and 8 to the constructed
-- ends.
unfoldable pub require_implied_lists : ImpliedLists → Map → LayerOffset → Text → List ℕ → MapOutcome
unfolding require_list_room require_short require_legal
require_implied_lists l m time out slots =
    cond (all_within64 l)
    (require_list_room (l.inverted ++ constructed_pairs l) out slots (require_short (constructed_pairs l) (require_legal (constructed_pairs l) (map m time))))
    (refused TooMany)

-- The implied class across a transfer that is not the identity. Question 8 never fails: `implied_legal` (proofs/ImpliedEnds.antt).
unfoldable pub implied_outcome : Map → Map → LayerOffset → Text → List ℕ → MapOutcome
unfolding require_implied_lists class_list implied_list implied_class
implied_outcome transfer class time out slots = require_implied_lists (implied_lists transfer class) (implied_class transfer class) time out slots

-- If the call returns a map, it is the implied class map (proved in proofs/ImpliedBranches.antt).
abbrev pub ImpliesTo : Type 0
ImpliesTo = (transfer class m : Map) (time t : LayerOffset) (out : Text) (slots : List ℕ) → implied_outcome transfer class time out slots ≡ map m t → m ≡ implied_class transfer class

-- The composed time offset; the offset of the inverse is (0, 1).
abbrev pub implied_time : MapFunction → MapFunction → LayerOffset
implied_time transfer class = composed_time transfer.time_offset (composed_time class.time_offset identity_offset)

-- The `implied_class` call; the transfer is given first. If the transfer is the identity, time offset included, the class's map is returned
-- unchanged. (Rust: implied_class)
unfoldable pub implied_class_call : Text → List ℕ → MapFunction → Text → List ℕ → MapFunction → Text → List ℕ → MapOutcome
unfolding validate_call is_identity_map without_dropping implied_outcome composed_time
implied_class_call store places transfer cstore cplaces class out slots =
    refused_or (validate_call (list_of store places transfer ∷ list_of cstore cplaces class ∷ []) [] []) refused
    (cond (is_identity_map transfer) (without_dropping (pairs_in cstore cplaces class.count) class.has_root_identity class.time_offset out slots)
    (implied_outcome (map_of store places transfer) (map_of cstore cplaces class) (implied_time transfer class) out slots))

-- No `implied_class` call is refused with 8 (proved in proofs/NeverIllegal.antt).
abbrev pub ImpliedNeverIllegal : Type 0
ImpliedNeverIllegal = (store : Text) (places : List ℕ) (transfer : MapFunction) (cstore : Text) (cplaces : List ℕ) (class : MapFunction) (out : Text) (slots : List ℕ)
    → implied_class_call store places transfer cstore cplaces class out slots ≡ refused MadeIllegal → ⊥
