-- Meaning: Wrong answers of the calls on relocate lists and routes. Each field names an input and an answer that the definition excludes; the comment says
-- which mistake would give that answer.
use Rattle.std.specs.Prelude.{◌≢◌, true, false, List, [], ◌∷◌, Ok, Err, Some, None}
use Rattle.text.specs.Text.{bytes}
use Rattle.refusal.specs.declared.Refusal.TheVariants.{NoRoom}
use Rattle.refusal.specs.Outcome.{path}
use Rattle.pair_list.specs.Pair.{Pair}
use Rattle.relocates.specs.Calls.{analyze_reply, analyze_buffer}
use Rattle.relocate_chain.specs.Chain.{chained, stopped}
use Rattle.relocate_chain.specs.Calls.{chain_call, chain_buffer, shift_call}
use Rattle.route_legs.specs.LentRoute.{LentRoute, lent_route}
use Rattle.route.specs.Calls.{route_call}
use Rattle.mapping.specs.declared.Direction.TheVariants.{Out}
use Rattle.batch.specs.Batch.{mapped_at, routed_at, validate_map_all, validate_route_all}
use Rattle.cases.specs.Lent.{string_pair, store_of, places_of, lent_pairs, unmarked_header, conflicting, rotating}
use Rattle.cases.specs.WrongMaps.{a_to_b_list, illegal_list}

-- The sources `/` and empty, both without elements; `/` is longer in bytes.
abbrev pub root_and_empty : List Pair
root_and_empty = string_pair "/" "/X" ∷ string_pair "" "/Y" ∷ []

-- A route of the legs `/A`→`/B` and `/B`→`/C`, both maps without the mark.
abbrev pub two_legs : LentRoute
two_legs = let l : List Pair = string_pair "/A" "/B" ∷ string_pair "/B" "/C" ∷ [] in
    lent_route (store_of l) (places_of l) (0 ∷ 0 ∷ 1 ∷ 0 ∷ 1 ∷ 1 ∷ []) 2

pub record WrongRelocates : Type 0 where
  -- `analyze_relocate_occurrences`: a pair that is itself in conflict conflicts with no other; every pair Active; nothing written; accepted with a
  -- byte too few.
  pub conflict_among_active : analyze_buffer (analyze_reply (lent_pairs conflicting) 3) (lent_pairs conflicting) (9 ∷ 9 ∷ 9 ∷ []) ≢ 3 ∷ 3 ∷ 0 ∷ []
  pub all_active : analyze_buffer (analyze_reply (lent_pairs conflicting) 3) (lent_pairs conflicting) (9 ∷ 9 ∷ 9 ∷ []) ≢ 0 ∷ 0 ∷ 0 ∷ []
  pub nothing_written : analyze_buffer (analyze_reply (lent_pairs conflicting) 3) (lent_pairs conflicting) (9 ∷ 9 ∷ 9 ∷ []) ≢ 9 ∷ 9 ∷ 9 ∷ []
  pub status_room : analyze_reply (lent_pairs conflicting) 2 ≢ Ok 3
  -- `chain_through_relocates`: an invented step count; one step only; sources weighed by elements; the skipped source used; 5 although 255 bytes
  -- are lent.
  pub three_steps : chain_call (lent_pairs rotating) None (bytes "/R/a/b/d/b/d") 255 ≢ chained (bytes "/R/a/b/d") 3
  pub one_step : chain_call (lent_pairs rotating) None (bytes "/R/a/b/d/b/d") 255 ≢ chained (bytes "/R/c/d/b/d") 1
  pub by_elements : chain_call (lent_pairs root_and_empty) None (bytes "/A") 255 ≢ chained (bytes "/Y/Y/A") 2
  pub skip_ignored : chain_call (lent_pairs rotating) (Some (bytes "/R/a/b")) (bytes "/R/a/b/d") 255 ≢ chained (bytes "/R/a") 2
  pub chain_no_room : chain_call (lent_pairs rotating) None (bytes "/R/a/b/d/b/d") 255 ≢ stopped NoRoom
  -- A refused chain writes.
  pub refused_chain_writes : chain_buffer (chain_call (lent_pairs rotating) None (bytes "A") 255) (9 ∷ []) ≢ 47 ∷ []
  -- `shift_through_nearest_ancestor`: the path unmoved; an endpoint that is itself a source moved.
  pub shift_unmoved : shift_call (lent_pairs a_to_b_list) (bytes "/A/c") 255 ≢ path (bytes "/A/c")
  pub shift_at_itself : shift_call (lent_pairs a_to_b_list) (bytes "/A") 255 ≢ path (bytes "/B")
  -- `route_out`: the first leg only; the path unmoved. `route_home`: the last leg only; the way out.
  pub first_leg_only_lem : route_call false two_legs (bytes "/A/D") 255 ≢ path (bytes "/B/D")
  pub route_unmoved : route_call false two_legs (bytes "/A/D") 255 ≢ path (bytes "/A/D")
  pub home_last_leg_only : route_call true two_legs (bytes "/C/D") 255 ≢ path (bytes "/B/D")
  pub home_is_out : route_call true two_legs (bytes "/A/D") 255 ≢ path (bytes "/C/D")
  -- `map_all` and `route_all`: the first path for each.
  pub first_for_all : mapped_at Out (store_of a_to_b_list) (places_of a_to_b_list) (unmarked_header a_to_b_list) (bytes "/A/C/A/D") (0 ∷ 4 ∷ 4 ∷ 4 ∷ []) 1 ≢ path (bytes "/B/C")
  pub first_routed_for_all : routed_at false two_legs (bytes "/A/C/A/D") (0 ∷ 4 ∷ 4 ∷ 4 ∷ []) 1 ≢ path (bytes "/C/C")
  -- Both: 5 before the questions of the list; 5 for more paths than places, which is a count beyond its slice; nothing asked of the list if there
  -- are no paths.
  pub batch_room_first : validate_map_all (store_of illegal_list) (places_of illegal_list) (unmarked_header illegal_list) 1 (0 ∷ 0 ∷ []) [] [] ≢ Err NoRoom
  pub batch_count_is_5 : validate_map_all (store_of a_to_b_list) (places_of a_to_b_list) (unmarked_header a_to_b_list) 1 [] [] [] ≢ Err NoRoom
  pub batch_of_none : validate_map_all (store_of illegal_list) (places_of illegal_list) (unmarked_header illegal_list) 0 [] [] [] ≢ Ok tt
  pub batch_routed_first : validate_route_all (lent_route (store_of illegal_list) (places_of illegal_list) (0 ∷ 0 ∷ 1 ∷ []) 1) 1 (0 ∷ 0 ∷ []) [] [] ≢ Err NoRoom
