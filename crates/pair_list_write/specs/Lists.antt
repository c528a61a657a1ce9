-- Meaning: The result of writing a list of pairs, and the contents of the lent buffers afterwards.
use Rattle.std.specs.Prelude.{Bool, cond, ◌&&◌, List, [], ◌∷◌, ℕ, ◌+◌, ◌-◌, ◌*◌, ◌/◌, leb, length, get_or, Option, Some, None}
use Rattle.text.specs.Text.{Text, written, written_at, written_if_fits}
use Rattle.pair_list.specs.Pair.{Pair}
use Rattle.pair_list.specs.Places.{list_text, list_places, end_bytes}

-- The part of the capacity `room` that remains after the bytes of a list.
unfoldable pub remaining_room : List Pair → ℕ → Option ℕ
unfolding end_bytes
remaining_room l room = cond (leb (end_bytes l) room) (Some (room - end_bytes l)) None

-- The lent buffers are large enough for the list: for its bytes, and for four numbers for each pair.
unfoldable pub list_fits_buffers : List Pair → Text → List ℕ → Bool
unfolding end_bytes
list_fits_buffers l out slots = leb (end_bytes l) (length out) && leb (length l) (length slots / 4)

-- The result of writing a list: the number of pairs, or `None` if a buffer is too short.
unfoldable pub write_list_reply : List Pair → Text → List ℕ → Option ℕ
unfolding list_fits_buffers
write_list_reply l out slots = cond (list_fits_buffers l out slots) (Some (length l)) None

-- The byte buffer after writing a list; unchanged if a buffer is too short.
unfoldable pub write_list_bytes : List Pair → Text → List ℕ → Text
unfolding list_fits_buffers list_text
write_list_bytes l out slots = cond (list_fits_buffers l out slots) (written (list_text l) out) out

-- The places after writing a list; unchanged if a buffer is too short.
unfoldable pub write_list_slots : List Pair → Text → List ℕ → List ℕ
unfolding list_fits_buffers list_places
write_list_slots l out slots = cond (list_fits_buffers l out slots) (written (list_places 0 l) slots) slots

-- The lent buffers are large enough for the list when it is written from byte `at`.
unfoldable pub append_fits_buffers : ℕ → List Pair → Text → List ℕ → Bool
unfolding end_bytes
append_fits_buffers at l out slots = leb (at + end_bytes l) (length out) && leb (length l) (length slots / 4)

-- The result of writing a list from byte `at`: the number of pairs, or `None` if a buffer is too short.
unfoldable pub append_list_reply : ℕ → List Pair → Text → List ℕ → Option ℕ
unfolding append_fits_buffers
append_list_reply at l out slots = cond (append_fits_buffers at l out slots) (Some (length l)) None

-- The byte buffer after writing a list from byte `at`; unchanged if a buffer is too short.
unfoldable pub append_list_bytes : ℕ → List Pair → Text → List ℕ → Text
unfolding append_fits_buffers list_text
append_list_bytes at l out slots = cond (append_fits_buffers at l out slots) (written_at at (list_text l) out) out

-- The places after writing a list from byte `at`; unchanged if a buffer is too short.
unfoldable pub append_list_slots : ℕ → List Pair → Text → List ℕ → List ℕ
unfolding append_fits_buffers list_places
append_list_slots at l out slots = cond (append_fits_buffers at l out slots) (written (list_places at l) slots) slots

-- The four numbers of pair i.
abbrev pub entry_at : List ℕ → ℕ → List ℕ
entry_at places i = get_or places (4 * i) 0 ∷ get_or places (4 * i + 1) 0 ∷ get_or places (4 * i + 2) 0 ∷ get_or places (4 * i + 3) 0 ∷ []

-- The numbers `slots` with the four numbers of pair i of `places` copied over pair w; unchanged if there is no such pair.
unfoldable pub copy_entry : List ℕ → ℕ → ℕ → List ℕ → List ℕ
unfolding written_if_fits
copy_entry places i w slots = cond (leb (length places / 4) i) slots (written_if_fits (4 * w) (entry_at places i) slots)
