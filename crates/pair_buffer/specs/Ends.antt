-- Meaning: Ends that a call has constructed, and the validation of a list of them.
use Rattle.std.specs.Option.{unwrap_or}
use Rattle.std.specs.Prelude.{Bool, cond, List, ℕ, leb, length, Option}
use Rattle.text.specs.Text.{Text}
use Rattle.path_grammar.specs.Legal.{legal}
use Rattle.path_join.specs.Join.{replace_prefix}
use Rattle.layer_offset.specs.declared.LayerOffset.{LayerOffset}
use Rattle.pair_list.specs.Pair.{Pair, every_end, all_short}
use Rattle.refusal.specs.declared.Refusal.TheVariants.{TooMany, MadeTooLong, MadeIllegal}
use Rattle.map_spec.specs.New.{from_parts}
use Rattle.map_function.specs.MapOutcome.{MapOutcome, map, refused, require_list_room}

-- A text of at most k bytes.
abbrev pub at_most : ℕ → Text → Bool
at_most k t = leb (length t) k

-- The path p with its prefix s replaced by t; p itself if it does not have that prefix.
abbrev pub replaced_or_same : Text → Text → Text → Text
replaced_or_same p s t = unwrap_or (replace_prefix p s t) p

-- The number of bytes written; 0 if the buffer was too short.
abbrev pub written_length : Option ℕ → ℕ
written_length n = unwrap_or n 0

-- Question 7: "Is every path made at most 255 bytes?"
unfoldable pub require_short : List Pair → MapOutcome → MapOutcome
unfolding all_short
require_short l o = cond (all_short l) o (refused MadeTooLong)

-- Question 8: "Is every path made legal?", with its answer given.
abbrev pub require_legal_given : Bool → MapOutcome → MapOutcome
require_legal_given isLegal o = cond isLegal o (refused MadeIllegal)

-- Question 8 for a list. Ends taken over unchanged are legal already.
unfoldable pub require_legal : List Pair → MapOutcome → MapOutcome
unfolding every_end legal
require_legal l o = require_legal_given (every_end legal l) o

-- The map built from a list whose ends were constructed: questions 4 and 5 for "the list that the dropping in `new` starts from", then
-- question 7, then question 8 with its answer given.
unfoldable pub from_ends_given : Bool → List Pair → Bool → LayerOffset → Text → List ℕ → MapOutcome
unfolding require_list_room require_short from_parts
from_ends_given isLegal l mark time out slots =
    cond (leb (length l) 64) (require_list_room l out slots (require_short l (require_legal_given isLegal (map (from_parts l mark) time)))) (refused TooMany)

-- The same with the answer to question 8 for the list.
unfoldable pub from_ends : List Pair → Bool → LayerOffset → Text → List ℕ → MapOutcome
unfolding from_ends_given every_end legal
from_ends l mark time out slots = from_ends_given (every_end legal l) l mark time out slots
