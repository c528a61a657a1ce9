-- Meaning: Wrong answers of the calls that tell the rest of a path. Each field names an input and an answer that the definition excludes; the comment says
-- which mistake would give that answer.
use Prim.Native.String.{String}
use Rattle.std.specs.Prelude.{◌≢◌, Bool, true, false, List, [], ◌∷◌, Result, Ok, Option, Some, None, ℕ}
use Rattle.text.specs.Text.{Text, bytes}
use Rattle.pair_list.specs.Pair.{Pair}
use Rattle.refusal.specs.Outcome.{outcome_reply}
use Rattle.path.specs.Calls.{rest_start_call}
use Rattle.path_rest.specs.Rest.{rest_text}
use Rattle.path_rest.specs.Carried.{with_rest, carried_rest}
use Rattle.map_function.specs.declared.MapFunction.{MapFunction}
use Rattle.map_function.specs.MapFunction.{map_of}
use Rattle.map_rest.specs.MapRest.{source_rest, target_rest, translated_rest}
use Rattle.mapping.specs.Calls.{map_source_to_target_call, map_target_to_source_call, translate_to_target_call}
use Rattle.route_spec.specs.Rest.{route_rest}
use Rattle.route_legs.specs.LentRoute.{LentRoute, lent_route, legs_in}
use Rattle.route.specs.Calls.{route_call}
use Rattle.cases.specs.Lent.{string_pair, store_of, places_of, unmarked_header, marked_header}
use Rattle.cases.specs.WrongMaps.{a_to_b_list, a_to_root_list}
use Rattle.refusal.specs.declared.Refusal.{Refusal}

-- The replies of the calls with the rest, for a map of these pairs and a path, with 255 bytes lent.
unfoldable pub source_carried : List Pair → MapFunction → String → Result (ℕ × Option ℕ) Refusal
unfolding store_of places_of outcome_reply with_rest map_source_to_target_call source_rest
source_carried l f p =
    with_rest (outcome_reply (map_source_to_target_call (store_of l) (places_of l) f (bytes p) 255)) (source_rest (map_of (store_of l) (places_of l) f) (bytes p))

unfoldable pub target_carried : List Pair → MapFunction → String → Result (ℕ × Option ℕ) Refusal
unfolding store_of places_of outcome_reply with_rest map_target_to_source_call target_rest
target_carried l f p =
    with_rest (outcome_reply (map_target_to_source_call (store_of l) (places_of l) f (bytes p) 255)) (target_rest (map_of (store_of l) (places_of l) f) (bytes p))

unfoldable pub translated_carried : List Pair → MapFunction → String → Result (ℕ × Option ℕ) Refusal
unfolding store_of places_of outcome_reply with_rest translate_to_target_call translated_rest
translated_carried l f p =
    with_rest (outcome_reply (translate_to_target_call (store_of l) (places_of l) f (bytes p) 255)) (translated_rest (map_of (store_of l) (places_of l) f) (bytes p))

-- The same for a route, home if the flag is set.
unfoldable pub routed_carried : Bool → LentRoute → String → Result (ℕ × Option ℕ) Refusal
unfolding outcome_reply with_rest route_call legs_in route_rest
routed_carried home r p = with_rest (outcome_reply (route_call home r (bytes p) 255)) (route_rest home (legs_in r r.count) (bytes p))

-- The rest of such a reply as a part of the path given.
unfoldable pub carried_text : String → Result (ℕ × Option ℕ) Refusal → Text
unfolding rest_text carried_rest
carried_text p c = rest_text (bytes p) (carried_rest c)

-- The lists `/A`→`/Long` and `/`→`/X`.
abbrev pub a_to_long_list : List Pair
a_to_long_list = string_pair "/A" "/Long" ∷ []

abbrev pub root_to_x_list : List Pair
root_to_x_list = string_pair "/" "/X" ∷ []

-- A route of the legs `/A`→`/Long` and `/Long/D`→`/C`, both maps without the mark. The second leg shortens the rest.
abbrev pub shortening_legs : LentRoute
shortening_legs = let l : List Pair = string_pair "/A" "/Long" ∷ string_pair "/Long/D" "/C" ∷ [] in
    lent_route (store_of l) (places_of l) (0 ∷ 0 ∷ 1 ∷ 0 ∷ 1 ∷ 1 ∷ []) 2

pub record WrongRests : Type 0 where
  -- `rest_start`: the rest from one byte later, without its slash; under `/` without its slash; a place with a no; a no for a text that is not legal.
  pub start_one_later : rest_start_call (bytes "/A/B") (bytes "/A") ≢ Ok (Some 3)
  pub start_below_root : rest_start_call (bytes "/A/B") (bytes "/") ≢ Ok (Some 1)
  pub start_with_no : rest_start_call (bytes "/AB") (bytes "/A") ≢ Ok (Some 2)
  pub start_unvalidated : rest_start_call (bytes "A") (bytes "/B") ≢ Ok None
  -- `map_source_to_target_carried`: the rest from one byte later; its index in the path made; under `/` without its slash.
  pub source_one_later : source_carried a_to_b_list (unmarked_header a_to_b_list) "/A/D" ≢ Ok (4, Some 3)
  pub source_in_made : source_carried a_to_long_list (unmarked_header a_to_long_list) "/A/D" ≢ Ok (7, Some 5)
  pub source_below_root : source_carried root_to_x_list (unmarked_header root_to_x_list) "/A" ≢ Ok (4, Some 1)
  -- An empty rest for a path that only the mark returns.
  pub source_by_mark : source_carried a_to_b_list (marked_header a_to_b_list) "/C/D" ≢ Ok (4, Some 4)
  pub source_by_mark_none : source_carried a_to_b_list (marked_header a_to_b_list) "/C/D" ≢ Ok (4, None)
  -- The rest of a refused call not empty: no pair matches; the path made, `/.b`, is not legal.
  pub source_no_path : carried_text "/C/D" (source_carried a_to_b_list (unmarked_header a_to_b_list) "/C/D") ≢ bytes "/C/D"
  pub source_made_illegal : carried_text "/A.b" (source_carried a_to_root_list (unmarked_header a_to_root_list) "/A.b") ≢ bytes ".b"
  -- `map_target_to_source_carried`: the rest after as many bytes as the source has; the rest of a refused call.
  pub target_by_source : target_carried a_to_long_list (unmarked_header a_to_long_list) "/Long/D" ≢ Ok (4, Some 2)
  pub target_no_path : carried_text "/A/D" (target_carried a_to_long_list (unmarked_header a_to_long_list) "/A/D") ≢ bytes "/D"
  -- `translate_to_target_carried`: a rest although a selection was stripped, as plain mapping has it, or after the selection; no rest although
  -- there is no selection.
  pub translated_stripped : translated_carried a_to_b_list (unmarked_header a_to_b_list) "/A{v=p}D" ≢ Ok (4, Some 2)
  pub translated_after_selection : translated_carried a_to_b_list (unmarked_header a_to_b_list) "/A{v=p}D" ≢ Ok (4, Some 7)
  pub translated_never : translated_carried a_to_b_list (unmarked_header a_to_b_list) "/A/D" ≢ Ok (4, None)
  -- `route_out_carried`: the rest of the first leg only; the index at which the rest begins in the path that reaches the last leg; a rest although a
  -- selection was stripped; the rest of a route that its second leg refuses.
  pub out_first_leg : routed_carried false shortening_legs "/A/D/E" ≢ Ok (4, Some 2)
  pub out_in_last_leg : routed_carried false shortening_legs "/A/D/E" ≢ Ok (4, Some 7)
  pub out_stripped : routed_carried false shortening_legs "/A{v=p}D/E" ≢ Ok (4, Some 8)
  pub out_no_path : carried_text "/A/B" (routed_carried false shortening_legs "/A/B") ≢ bytes "/B"
  -- `route_home_carried`: the rest of the last leg only; the rest of the way out.
  pub home_last_leg : routed_carried true shortening_legs "/C/E" ≢ Ok (6, Some 0)
  pub home_as_out : routed_carried true shortening_legs "/C/E" ≢ Ok (6, Some 4)
