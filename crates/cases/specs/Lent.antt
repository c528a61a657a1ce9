-- Meaning: Lists, maps and routes of strings as a caller lends them, and lent buffers that are large enough.
use Rattle.std.specs.Prelude.{ℕ, Bool, true, false, List, [], ◌∷◌, length, replicate}
use Prim.Native.String.{String}
use Rattle.text.specs.Text.{Text, bytes}
use Rattle.layer_offset.specs.declared.LayerOffset.{LayerOffset}
use Rattle.layer_offset.specs.Offset.{identity_offset}
use Rattle.pair_list.specs.Pair.{Pair, pair}
use Rattle.pair_list.specs.Places.{list_text, list_places}
use Rattle.map_spec.specs.Map.{Map}
use Rattle.map_function.specs.declared.MapFunction.{MapFunction}
use Rattle.validate.specs.Validate.{LentList, lent_list}

-- The pair of two strings.
abbrev pub string_pair : String → String → Pair
string_pair s t = pair (bytes s) (bytes t)

-- A list of pairs in lent memory, as it is written: its bytes, its places, and both with its count.
unfoldable pub store_of : List Pair → Text
unfolding list_text
store_of l = list_text l

unfoldable pub places_of : List Pair → List ℕ
unfolding list_places
places_of l = list_places 0 l

unfoldable pub lent_pairs : List Pair → LentList
unfolding store_of places_of
lent_pairs l = lent_list (store_of l) (places_of l) (length l)

-- The header of a map of these pairs, with the mark and the time offset.
abbrev pub header : List Pair → Bool → LayerOffset → MapFunction
header l mark time = record { count = length l; has_root_identity = mark; time_offset = time }

-- The same with the time offset (0, 1), without and with the mark.
abbrev pub unmarked_header : List Pair → MapFunction
unmarked_header l = header l false identity_offset

abbrev pub marked_header : List Pair → MapFunction
marked_header l = header l true identity_offset

-- A map without the mark.
abbrev pub unmarked_map : List Pair → Map
unmarked_map l = record { pairs = l; mark = false }

-- A map with the mark.
abbrev pub marked_map : List Pair → Map
marked_map l = record { pairs = l; mark = true }

-- A lent byte buffer and lent numbers for up to four short pairs.
abbrev pub bytes_lent : Text
bytes_lent = replicate 64 0

abbrev pub places_lent : List ℕ
places_lent = replicate 16 0

-- A relocate list whose pairs all conflict: two have one target, and the third has that target as its source.
abbrev pub conflicting : List Pair
conflicting = string_pair "/R/a" "/R/b" ∷ string_pair "/R/c" "/R/b" ∷ string_pair "/R/b" "/R/d" ∷ []

-- A relocate list of two Active pairs along which a path chains twice.
abbrev pub rotating : List Pair
rotating = string_pair "/R/a/b" "/R/c" ∷ string_pair "/R/c/d" "/R/a" ∷ []
