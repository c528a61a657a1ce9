-- The proof that no `implied_class` call is refused because a path that it made is illegal (question 8).
use mathlib.Core.Path.{◌≡◌}
use mathlib.Core.Bool.{true, cond}
use mathlib.Core.List.{List, [], ◌∷◌, ◌++◌}
use Prim.Native.Nat.{ℕ}
use Rattle.text.specs.Text.{Text}
use Rattle.layer_offset.specs.declared.LayerOffset.{LayerOffset}
use Rattle.pair_list.specs.Pair.{Pair, all_ends}
use Rattle.pair_list.specs.Places.{pairs_in}
use Rattle.validate.specs.Validate.{LentList}
use Rattle.validate.proofs.PassedLaws.{first_sound, second_sound}
use Rattle.map_spec.specs.Map.{Map}
use Rattle.map_spec.specs.Derive.{implied_class}
use Rattle.map_function.specs.MapFunction.{is_identity_map, list_of, map_of}
use Rattle.map_function.specs.MapOutcome.{MapOutcome, map, require_list_room, without_dropping}
use Rattle.pair_buffer.specs.Ends.{require_short, require_legal}
use Rattle.map_compose.proofs.NeverIllegal.{Never, never_either, never_many, never_room, never_made, never_as_it_is, never_unless}
use Rattle.map_implied_class.specs.Implied.{inverse_list, class_list, implied_list, implied_lists, all_within64, implied_outcome, implied_time, implied_class_call, ImpliedNeverIllegal}
use Rattle.map_implied_class.proofs.ImpliedEnds.{implied_legal}

module _ (transfer class : Map) (time : LayerOffset) (out : Text) (slots : List ℕ) where
  abbrev made : List Pair
  made = class_list transfer class ++ implied_list transfer class

  abbrev answer : MapOutcome
  answer = require_short made (require_legal made (map (implied_class transfer class) time))

  never_implying : all_ends transfer.pairs ≡ true → all_ends class.pairs ≡ true → Never (implied_outcome transfer class time out slots)
  unfolding implied_outcome
  never_implying te ce =
      never_many (all_within64 (implied_lists transfer class)) (require_list_room (inverse_list transfer ++ made) out slots answer)
      (never_room (inverse_list transfer ++ made) out slots answer (never_made made (implied_class transfer class) time (implied_legal transfer class te ce)))

pub never_illegal : ImpliedNeverIllegal
unfolding implied_class_call
never_illegal store places transfer cstore cplaces class out slots =
    never_unless (k ∷ l ∷ []) (cond (is_identity_map transfer) whole rest)
    (λ h. never_either (is_identity_map transfer) whole rest
    (never_as_it_is (pairs_in cstore cplaces class.count) class.has_root_identity class.time_offset out slots)
    (never_implying (map_of store places transfer) (map_of cstore cplaces class) (implied_time transfer class) out slots (first_sound k (l ∷ []) [] [] h).ends (second_sound k l [] [] [] h).ends))
  where
    k : LentList
    k = list_of store places transfer

    l : LentList
    l = list_of cstore cplaces class

    whole : MapOutcome
    whole = without_dropping (pairs_in cstore cplaces class.count) class.has_root_identity class.time_offset out slots

    rest : MapOutcome
    rest = implied_outcome (map_of store places transfer) (map_of cstore cplaces class) (implied_time transfer class) out slots
