-- Meaning: The outcome of a call that builds a map. Its reply and the contents of the lent buffers afterwards are all derived from this one value.
use Rattle.std.specs.Prelude.{◌≡◌, ℕ, ◌/◌, Bool, cond, List, leb, length, Result, Ok, Err}
use Rattle.text.specs.Text.{Text, written}
use Rattle.layer_offset.specs.declared.LayerOffset.{LayerOffset}
use Rattle.pair_list.specs.Pair.{Pair}
use Rattle.pair_list.specs.Places.{list_text, list_places}
use Rattle.pair_list_write.specs.Lists.{list_fits_buffers}
use Rattle.refusal.specs.declared.Refusal.{Refusal}
use Rattle.refusal.specs.declared.Refusal.TheVariants.{TooMany, NoRoom}
use Rattle.validate.specs.Validate.{LentList}
use Rattle.map_spec.specs.Map.{Map, map_size}
use Rattle.map_spec.specs.New.{from_parts}
use Rattle.map_function.specs.declared.MapFunction.{MapFunction}

-- A map with its time offset, or the refusal.
pub data MapOutcome : Type 0 where
  map : Map → LayerOffset → MapOutcome
  refused : Refusal → MapOutcome

-- The struct of a map: its number of pairs, its mark and its time offset.
abbrev pub map_function : Map → LayerOffset → MapFunction
map_function m time = record { count = map_size m; has_root_identity = m.mark; time_offset = time }

-- The reply of a call with this outcome.
unfoldable pub map_reply : MapOutcome → Result MapFunction Refusal
map_reply (map m time) = Ok (map_function m time)
map_reply (refused x) = Err x

-- The byte buffer after a call with this outcome: the bytes of the pairs consecutively over its beginning. Requirements: "A refused call
-- writes nothing."
unfoldable pub map_bytes : MapOutcome → Text → Text
unfolding list_text
map_bytes (map m time) out = written (list_text m.pairs) out
map_bytes (refused x) out = out

-- The lent numbers after a call with this outcome: the places of the pairs over their beginning.
unfoldable pub map_slots : MapOutcome → List ℕ → List ℕ
unfolding list_places
map_slots (map m time) slots = written (list_places 0 m.pairs) slots
map_slots (refused x) slots = slots

-- A call had this outcome: its reply r, and the contents of both lent buffers before (`out`, `slots`) and after it.
abbrev pub ReturnsMap : MapOutcome → Result MapFunction Refusal → Text → Text → List ℕ → List ℕ → Type 0
ReturnsMap o r out out' slots slots' = (r ≡ map_reply o) × ((out' ≡ map_bytes o out) × (slots' ≡ map_slots o slots))

-- Question 5 for a list. Requirements: "the sum of all end lengths before dropping for a list .. and a place for each such end".
unfoldable pub require_list_room : List Pair → Text → List ℕ → MapOutcome → MapOutcome
unfolding list_fits_buffers
require_list_room l out slots o = cond (list_fits_buffers l out slots) o (refused NoRoom)

-- The map m, with questions 4 and 5 applied to the list l. Requirements: "the list that the dropping in `new` starts from .. where that
-- isn't run, the list read or answered".
unfoldable pub within_limits : List Pair → Map → LayerOffset → Text → List ℕ → MapOutcome
unfolding require_list_room
within_limits l m time out slots = cond (leb (length l) 64) (require_list_room l out slots (map m time)) (refused TooMany)

-- The map with these pairs unchanged.
unfoldable pub without_dropping : List Pair → Bool → LayerOffset → Text → List ℕ → MapOutcome
unfolding within_limits
without_dropping l mark time out slots = within_limits l (record { pairs = l; mark = mark }) time out slots

-- The map of these pairs in canonical form.
unfoldable pub from_parts_outcome : List Pair → Bool → LayerOffset → Text → List ℕ → MapOutcome
unfolding within_limits from_parts
from_parts_outcome l mark time out slots = within_limits l (from_parts l mark) time out slots

-- The outcome for a lent list, refused if the slice holds fewer pairs than the count. Requirements: "A count beyond its slice counts as
-- over 64."
unfoldable pub count_in_slice : LentList → MapOutcome → MapOutcome
count_in_slice l o = cond (leb l.count (length l.places / 4)) o (refused TooMany)
