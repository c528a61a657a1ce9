-- Meaning: The calls that build a map from pairs: validation in the order of the questions, then the result.
use Rattle.std.specs.Prelude.{ℕ, List, [], ◌∷◌, Result, ⊤}
use Rattle.text.specs.Text.{Text}
use Rattle.layer_offset.specs.declared.LayerOffset.{LayerOffset}
use Rattle.layer_offset.specs.Offset.{identity_offset}
use Rattle.pair_list.specs.Pair.{Pair, pair}
use Rattle.refusal.specs.Refusal.{refused_or}
use Rattle.validate.specs.Validate.{lent_list, pairs_of, validate_call}
use Rattle.map_spec.specs.Map.{Map}
use Rattle.map_spec.specs.New.{new, from_pair, from_pair_identity}
use Rattle.map_function.specs.MapOutcome.{MapOutcome, refused, within_limits}
use Rattle.refusal.specs.declared.Refusal.{Refusal}

-- The result a of the questions that come first, then the map m, with questions 4 and 5 applied to the list l that dropping started from.
abbrev pub make_map : Result ⊤ Refusal → List Pair → Map → LayerOffset → Text → List ℕ → MapOutcome
make_map a l m time out slots = refused_or a refused (within_limits l m time out slots)

-- The call `new`. Its list before dropping is the one it is given; its map has the time offset (0, 1). Requirements: "the list that the
-- dropping in `new` starts from, its `/`→`/` pairs included".
unfoldable pub map_new_call : Text → List ℕ → ℕ → Text → List ℕ → MapOutcome
unfolding validate_call within_limits new
map_new_call store places count out slots =
    make_map (validate_call (lent_list store places count ∷ []) [] []) (pairs_of (lent_list store places count)) (new (pairs_of (lent_list store places count))) identity_offset out slots

-- The call `from_pair`: the pair unchanged, without the mark. Both texts count as ends. Requirements: "Is every end a prim path, `/` or
-- empty?"
unfoldable pub from_pair_call : Text → Text → Text → List ℕ → MapOutcome
unfolding validate_call within_limits from_pair
from_pair_call s t out slots = make_map (validate_call [] (s ∷ t ∷ []) (s ∷ t ∷ [])) (pair s t ∷ []) (from_pair (pair s t)) identity_offset out slots

-- The call `from_pair_identity`: the pair and the mark. Both texts count as ends.
unfoldable pub from_pair_identity_call : Text → Text → Text → List ℕ → MapOutcome
unfolding validate_call within_limits from_pair_identity
from_pair_identity_call s t out slots = make_map (validate_call [] (s ∷ t ∷ []) (s ∷ t ∷ [])) (pair s t ∷ []) (from_pair_identity (pair s t)) identity_offset out slots
