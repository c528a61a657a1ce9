-- Method: The intermediate values of the code for `implied_class`.
use Rattle.std.specs.Prelude.{Bool, cond, ◌&&◌, ◌||◌, List, ℕ, ◌+◌, ◌/◌, leb, length, Result, Ok, Err}
use Rattle.text.specs.Text.{Text}
use Rattle.layer_offset.specs.declared.LayerOffset.{LayerOffset}
use Rattle.layer_offset.specs.Offset.{identity_offset}
use Rattle.pair_list.specs.Pair.{Pair, all_short}
use Rattle.pair_list.specs.Places.{end_bytes}
use Rattle.refusal.specs.declared.Refusal.TheVariants.{TooMany, NoRoom, MadeTooLong}
use Rattle.map_spec.specs.Map.{Map}
use Rattle.map_spec.specs.New.{from_parts, null_map}
use Rattle.map_spec.specs.Compose.{compose}
use Rattle.map_spec.specs.Derive.{with_root_identity}
use Rattle.map_function.specs.declared.MapFunction.{MapFunction}
use Rattle.map_function.specs.MapFunction.{path_is_identity}
use Rattle.map_function.specs.MapOutcome.{MapOutcome, map, refused, map_function}
use Rattle.map_implied_class.specs.Implied.{composed_from}
use Rattle.refusal.specs.declared.Refusal.{Refusal}

-- The map of a list: unchanged if `whole` is set, otherwise after redundant pairs are dropped.
unfoldable pub finished_map : Bool → List Pair → Bool → Map
unfolding from_parts
finished_map whole l mark = cond whole (record { pairs = l; mark = mark }) (from_parts l mark)

-- The composed map, from the list that composing starts from, the mark and the number of pairs of each map.
unfoldable pub composed_map : MapFunction → MapFunction → List Pair → Map
unfolding finished_map path_is_identity
composed_map outer inner l = finished_map (path_is_identity outer || path_is_identity inner) l (outer.has_root_identity && inner.has_root_identity)

-- The map in a reply; the null map if the reply is a refusal.
abbrev pub map_of_reply : Result MapFunction Refusal → MapFunction
map_of_reply (Ok f) = f
map_of_reply (Err x) = map_function null_map identity_offset

-- Whether k more pairs of b bytes fit after the transfer's pairs.
unfoldable pub room_beside_transfer : List Pair → ℕ → ℕ → ℕ → ℕ → Bool
unfolding end_bytes
room_beside_transfer l k b room slots = leb (end_bytes l + b) room && leb (length l + k) (slots / 4)

-- The remaining checks once the class map is composed with the inverse: its list had n pairs and `at` bytes, and `short` tells whether it
-- passed question 7. Question 8 never fails.
unfoldable pub implied_after_class : Map → Map → ℕ → ℕ → Bool → LayerOffset → Text → List ℕ → MapOutcome
unfolding composed_from compose with_root_identity room_beside_transfer all_short
implied_after_class transfer middle n at short time out slots =
    cond (leb (length (composed_from transfer middle)) 64)
    (cond (room_beside_transfer transfer.pairs (n + length (composed_from transfer middle)) (at + end_bytes (composed_from transfer middle)) (length out) (length slots))
    (cond (short && all_short (composed_from transfer middle)) (map (with_root_identity (compose transfer middle)) time) (refused MadeTooLong))
    (refused NoRoom))
    (refused TooMany)
