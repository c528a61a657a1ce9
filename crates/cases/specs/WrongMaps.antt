-- Meaning: Wrong answers of the calls on maps. Each field names an input and an answer that the definition excludes; the comment says which mistake would
-- give that answer.
use Rattle.std.specs.Prelude.{◌≢◌, true, false, List, [], ◌∷◌, replicate, Ok}
use Rattle.text.specs.Text.{bytes}
use Rattle.layer_offset.specs.Offset.{identity_offset}
use Rattle.pair_list.specs.Pair.{Pair}
use Rattle.refusal.specs.declared.Refusal.TheVariants.{Illegal, NoRoom, NoPath}
use Rattle.refusal.specs.Outcome.{path, refused}
use Rattle.map_function.specs.MapFunction.{is_null, path_is_identity, is_identity_map}
use Rattle.map_function.specs.MapOutcome.{map, refused as refusedMap, map_function}
use Rattle.map_spec.specs.New.{identity_map, null_map}
use Rattle.map_new.specs.Calls.{map_new_call, from_pair_call, from_pair_identity_call}
use Rattle.map_derive.specs.Calls.{inverse_call, with_root_identity_call, dropping_source_call, is_noop_call}
use Rattle.map_compose.specs.Calls.{compose_call}
use Rattle.map_implied_class.specs.Implied.{implied_class_call}
use Rattle.map_rebase.specs.Calls.{rebase_target_call}
use Rattle.map_deepen.specs.Calls.{deepen_to_call}
use Rattle.mapping.specs.Calls.{map_source_to_target_call, map_target_to_source_call, translate_to_target_call}
use Rattle.ffi_values.specs.MapCode.{with_time_offset_call, map_from_numbers}
use Rattle.cases.specs.WrongTimes.{five, two, five_two}
use Rattle.cases.specs.Lent.{string_pair, store_of, places_of, header, unmarked_header, marked_header, unmarked_map, marked_map, bytes_lent, places_lent}

-- The lists `/A`→`/B`; `/B`→`/A`; `/B`→`/C`; `/A`→`/A`; `/A`→`/`; `/A`→empty; `/`→`/`; empty→`/X`; `/A`→`/X` and `/C`→`/A`; a list whose source is
-- not legal.
abbrev pub a_to_b_list : List Pair
a_to_b_list = string_pair "/A" "/B" ∷ []

abbrev pub b_to_a_list : List Pair
b_to_a_list = string_pair "/B" "/A" ∷ []

abbrev pub b_to_c_list : List Pair
b_to_c_list = string_pair "/B" "/C" ∷ []

abbrev pub a_to_a_list : List Pair
a_to_a_list = string_pair "/A" "/A" ∷ []

abbrev pub a_to_root_list : List Pair
a_to_root_list = string_pair "/A" "/" ∷ []

abbrev pub a_to_empty_list : List Pair
a_to_empty_list = string_pair "/A" "" ∷ []

abbrev pub root_to_root_list : List Pair
root_to_root_list = string_pair "/" "/" ∷ []

abbrev pub empty_to_x_list : List Pair
empty_to_x_list = string_pair "" "/X" ∷ []

abbrev pub a_and_c_list : List Pair
a_and_c_list = string_pair "/A" "/X" ∷ string_pair "/C" "/A" ∷ []

abbrev pub illegal_list : List Pair
illegal_list = string_pair "A" "/B" ∷ []

pub record WrongMaps : Type 0 where
  -- `new`: `/`→`/` stays a pair; the mark without it; every list refused for its memory.
  pub new_keeps_root : map_new_call (store_of root_to_root_list) (places_of root_to_root_list) 1 bytes_lent places_lent ≢ map (unmarked_map root_to_root_list) identity_offset
  pub new_marks_all : map_new_call (store_of a_to_b_list) (places_of a_to_b_list) 1 bytes_lent places_lent ≢ map (marked_map a_to_b_list) identity_offset
  pub new_no_room : map_new_call (store_of a_to_b_list) (places_of a_to_b_list) 1 bytes_lent places_lent ≢ refusedMap NoRoom
  -- Pairs whose sources have as many elements exchanged.
  pub new_not_stable : map_new_call (store_of a_and_c_list) (places_of a_and_c_list) 2 bytes_lent places_lent ≢ map (unmarked_map (string_pair "/C" "/A" ∷ string_pair "/A" "/X" ∷ [])) identity_offset
  -- `from_pair` with the mark, `from_pair_identity` without it.
  pub pair_marked : from_pair_call (bytes "/A") (bytes "/B") bytes_lent places_lent ≢ map (marked_map a_to_b_list) identity_offset
  pub pair_identity_unmarked : from_pair_identity_call (bytes "/A") (bytes "/B") bytes_lent places_lent ≢ map (unmarked_map a_to_b_list) identity_offset
  -- `inverse`: the pairs as they were; the time offset kept.
  pub inverse_unswapped : inverse_call (store_of a_to_b_list) (places_of a_to_b_list) (unmarked_header a_to_b_list) bytes_lent places_lent ≢ map (unmarked_map a_to_b_list) identity_offset
  pub inverse_keeps_time : inverse_call (store_of a_to_b_list) (places_of a_to_b_list) (header a_to_b_list false five_two) bytes_lent places_lent ≢ map (unmarked_map b_to_a_list) five_two
  -- `with_root_identity`: no mark; a pair that the mark makes redundant dropped.
  pub root_identity_unmarked : with_root_identity_call (store_of a_to_b_list) (places_of a_to_b_list) (unmarked_header a_to_b_list) bytes_lent places_lent ≢ map (unmarked_map a_to_b_list) identity_offset
  pub root_identity_drops : with_root_identity_call (store_of a_to_a_list) (places_of a_to_a_list) (unmarked_header a_to_a_list) bytes_lent places_lent ≢ map (marked_map []) identity_offset
  -- `dropping_source`: the pair with that target dropped; nothing dropped.
  pub dropped_by_target : dropping_source_call (store_of a_and_c_list) (places_of a_and_c_list) (unmarked_header a_and_c_list) (bytes "/A") bytes_lent places_lent ≢ map (unmarked_map (string_pair "/A" "/X" ∷ [])) identity_offset
  pub dropped_nothing : dropping_source_call (store_of a_and_c_list) (places_of a_and_c_list) (unmarked_header a_and_c_list) (bytes "/A") bytes_lent places_lent ≢ map (unmarked_map a_and_c_list) identity_offset
  -- `is_noop`: a map that moves a path; the null map; a map that moves times.
  pub noop_moves : is_noop_call (store_of a_to_b_list) (places_of a_to_b_list) (unmarked_header a_to_b_list) ≢ Ok true
  pub noop_null : is_noop_call [] [] (unmarked_header []) ≢ Ok true
  pub noop_moves_time : is_noop_call [] [] (header [] true five_two) ≢ Ok true
  -- `compose`: the mark of one map is enough; the time offset of one map alone.
  pub composed_one_mark : compose_call (store_of b_to_c_list) (places_of b_to_c_list) (marked_header b_to_c_list) (store_of a_to_b_list) (places_of a_to_b_list) (unmarked_header a_to_b_list) bytes_lent places_lent
      ≢ map (marked_map (string_pair "/A" "/C" ∷ [])) identity_offset
  pub composed_outer_time : compose_call (store_of b_to_c_list) (places_of b_to_c_list) (unmarked_header b_to_c_list) (store_of a_to_b_list) (places_of a_to_b_list) (header a_to_b_list false five_two) bytes_lent places_lent
      ≢ map (unmarked_map (string_pair "/A" "/C" ∷ [])) identity_offset
  -- `rebase_target`: the identity stays as it is; sources rebased.
  pub rebased_identity : rebase_target_call [] [] (marked_header []) (bytes "/A") (bytes "/B") bytes_lent places_lent ≢ map (marked_map []) identity_offset
  pub rebased_source : rebase_target_call (store_of a_to_b_list) (places_of a_to_b_list) (unmarked_header a_to_b_list) (bytes "/A") (bytes "/C") bytes_lent places_lent
      ≢ map (unmarked_map (string_pair "/C" "/B" ∷ [])) identity_offset
  -- A path that is not legal made into a target.
  pub rebased_illegal : rebase_target_call (store_of a_to_root_list) (places_of a_to_root_list) (unmarked_header a_to_root_list) [] (bytes "/X") bytes_lent places_lent
      ≢ map (unmarked_map (string_pair "/A" "/X/" ∷ [])) identity_offset
  -- `deepen_to`: an empty source skipped; the class's target not deepened.
  pub deepened_not_empty : deepen_to_call (store_of empty_to_x_list) (places_of empty_to_x_list) (unmarked_header empty_to_x_list) (bytes "/A") bytes_lent places_lent ≢ map (unmarked_map empty_to_x_list) identity_offset
  pub deepened_target_kept : deepen_to_call (store_of a_to_b_list) (places_of a_to_b_list) (unmarked_header a_to_b_list) (bytes "/A/c") bytes_lent places_lent
      ≢ map (unmarked_map (string_pair "/A/c" "/B" ∷ [])) identity_offset
  -- `implied_class`: the class's map unchanged; no mark added; the class's time offset lost.
  pub implied_unmoved : implied_class_call (store_of a_to_b_list) (places_of a_to_b_list) (unmarked_header a_to_b_list) (store_of a_to_a_list) (places_of a_to_a_list) (unmarked_header a_to_a_list) bytes_lent places_lent
      ≢ map (unmarked_map a_to_a_list) identity_offset
  pub implied_unmarked : implied_class_call (store_of a_to_b_list) (places_of a_to_b_list) (unmarked_header a_to_b_list) [] [] (marked_header []) bytes_lent places_lent ≢ map (unmarked_map []) identity_offset
  pub implied_without_time : implied_class_call (store_of a_to_b_list) (places_of a_to_b_list) (unmarked_header a_to_b_list) [] [] (header [] true five_two) bytes_lent places_lent ≢ map (marked_map []) identity_offset
  -- `identity` and `null` exchanged; `is_null`, `path_is_identity` and `is_identity` of a map that is not.
  pub identity_is_null : map_function identity_map identity_offset ≢ map_function null_map identity_offset
  pub marked_is_null : is_null (marked_header []) ≢ true
  pub unmarked_is_identity : path_is_identity (unmarked_header []) ≢ true
  pub timed_is_identity : is_identity_map (header [] true five_two) ≢ true
  -- `with_time_offset`: the old time offset; a map of 65 pairs.
  pub time_not_replaced : with_time_offset_call (unmarked_header a_to_b_list) five_two ≢ Ok (unmarked_header a_to_b_list)
  pub time_of_65 : with_time_offset_call (map_from_numbers 65 false five two) identity_offset ≢ Ok (map_from_numbers 65 false five two)
  -- `map_source_to_target`: the path unmoved; no path; the bytes of `/A` in `/AD`; an empty target taken for a path.
  pub out_unmoved : map_source_to_target_call (store_of a_to_b_list) (places_of a_to_b_list) (unmarked_header a_to_b_list) (bytes "/A/D") 255 ≢ path (bytes "/A/D")
  pub out_no_path : map_source_to_target_call (store_of a_to_b_list) (places_of a_to_b_list) (unmarked_header a_to_b_list) (bytes "/A/D") 255 ≢ refused NoPath
  pub out_without_boundary : map_source_to_target_call (store_of a_to_b_list) (places_of a_to_b_list) (unmarked_header a_to_b_list) (bytes "/AD") 255 ≢ path (bytes "/BD")
  pub out_to_empty : map_source_to_target_call (store_of a_to_empty_list) (places_of a_to_empty_list) (unmarked_header a_to_empty_list) (bytes "/A") 255 ≢ path []
  -- The refusal of the list although the path's question comes first.
  pub list_refused_first : map_source_to_target_call (store_of illegal_list) (places_of illegal_list) (unmarked_header illegal_list) (replicate 256 65) 255 ≢ refused Illegal
  -- `map_target_to_source`: the sources taken as keys; the path unmoved.
  pub home_by_sources : map_target_to_source_call (store_of a_to_b_list) (places_of a_to_b_list) (unmarked_header a_to_b_list) (bytes "/A/D") 255 ≢ path (bytes "/B/D")
  pub home_unmoved : map_target_to_source_call (store_of a_to_b_list) (places_of a_to_b_list) (unmarked_header a_to_b_list) (bytes "/B/D") 255 ≢ path (bytes "/B/D")
  -- `translate_to_target`: plain mapping; the selections kept.
  pub translated_plainly : translate_to_target_call (store_of a_to_b_list) (places_of a_to_b_list) (marked_header a_to_b_list) (bytes "/B/y") 255 ≢ path (bytes "/B/y")
  pub translated_selection : translate_to_target_call (store_of a_to_b_list) (places_of a_to_b_list) (unmarked_header a_to_b_list) (bytes "/A{v=p}D") 255 ≢ path (bytes "/B{v=p}D")
