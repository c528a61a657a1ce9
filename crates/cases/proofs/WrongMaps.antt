-- Every wrong answer of a call on maps differs from the right one, by computing both.
use Rattle.std.specs.Prelude.{Result, Ok, Err}
use mathlib.Core.Path.{refl}
use mathlib.Core.List.{List, [], ◌∷◌}
use Prim.Native.Nat.{ℕ, ◌+◌, ◌*◌}
use lib.Ieee.{add, sum, mul, eq, round, to_bits}
use Rattle.pair_list.specs.Pair.{Pair}
use Rattle.pair_list.specs.Places.{pairs_in}
use Rattle.refusal.specs.Refusal.{refusal_number}
use Rattle.path_prefix.specs.Elements.{count_elements}
use Rattle.map_function.specs.declared.MapFunction.{MapFunction}
use Rattle.map_function.specs.MapFunction.{is_null, path_is_identity, is_identity_map}
use Rattle.map_function.specs.MapOutcome.{MapOutcome, map, refused}
use Rattle.map_new.specs.Calls.{map_new_call, from_pair_call, from_pair_identity_call}
use Rattle.map_derive.specs.Calls.{inverse_call, with_root_identity_call, dropping_source_call, is_noop_call}
use Rattle.map_compose.specs.Calls.{compose_call}
use Rattle.map_implied_class.specs.Implied.{implied_class_call}
use Rattle.map_rebase.specs.Calls.{rebase_target_call}
use Rattle.map_deepen.specs.Calls.{deepen_to_call}
use Rattle.mapping.specs.Calls.{map_source_to_target_call, map_target_to_source_call, translate_to_target_call}
use Rattle.ffi_values.specs.MapCode.{with_time_offset_call}
use Rattle.cases.specs.Lent.{store_of, places_of}
use Rattle.cases.specs.WrongMaps.{WrongMaps}
use Rattle.cases.proofs.Tell.{apart, text_number, bool_number, test_number, outcome_number, time_number}
use Rattle.refusal.specs.declared.Refusal.{Refusal}

-- A number for a list of pairs: the ends of its pairs, each after the number of the rest.
unfoldable pairs_number : List Pair → ℕ
unfolding text_number
pairs_number [] = 1
pairs_number (x ∷ l) = text_number x.source + 1208925819614629174706176 * (text_number x.target + 1208925819614629174706176 * pairs_number l)

-- A number for a map's header, for a map with its time offset, and for a reply.
unfoldable header_number : MapFunction → ℕ
unfolding bool_number time_number
header_number f = bool_number f.has_root_identity + 2 * (f.count + 256 * time_number f.time_offset)

unfoldable map_outcome_number : MapOutcome → ℕ
unfolding bool_number pairs_number time_number
map_outcome_number (map m time) = 16 + bool_number m.mark + 2 * (time_number time + 680564733841876926926749214863536422912 * pairs_number m.pairs)
map_outcome_number (refused x) = refusal_number x

unfoldable map_reply_number : Result MapFunction Refusal → ℕ
unfolding header_number
map_reply_number (Ok f) = 16 + header_number f
map_reply_number (Err x) = refusal_number x

pub wrong_maps : WrongMaps
unfolding count_elements store_of places_of pairs_in map_new_call from_pair_call from_pair_identity_call inverse_call with_root_identity_call dropping_source_call is_noop_call compose_call implied_class_call
    rebase_target_call deepen_to_call map_source_to_target_call map_target_to_source_call translate_to_target_call with_time_offset_call is_null path_is_identity is_identity_map
    to_bits add sum mul eq round test_number outcome_number header_number map_outcome_number map_reply_number
wrong_maps = record {
  new_keeps_root = apart map_outcome_number refl;
  new_marks_all = apart map_outcome_number refl;
  new_no_room = apart map_outcome_number refl;
  new_not_stable = apart map_outcome_number refl;
  pair_marked = apart map_outcome_number refl;
  pair_identity_unmarked = apart map_outcome_number refl;
  inverse_unswapped = apart map_outcome_number refl;
  inverse_keeps_time = apart map_outcome_number refl;
  root_identity_unmarked = apart map_outcome_number refl;
  root_identity_drops = apart map_outcome_number refl;
  dropped_by_target = apart map_outcome_number refl;
  dropped_nothing = apart map_outcome_number refl;
  noop_moves = apart test_number refl;
  noop_null = apart test_number refl;
  noop_moves_time = apart test_number refl;
  composed_one_mark = apart map_outcome_number refl;
  composed_outer_time = apart map_outcome_number refl;
  rebased_identity = apart map_outcome_number refl;
  rebased_source = apart map_outcome_number refl;
  rebased_illegal = apart map_outcome_number refl;
  deepened_not_empty = apart map_outcome_number refl;
  deepened_target_kept = apart map_outcome_number refl;
  implied_unmoved = apart map_outcome_number refl;
  implied_unmarked = apart map_outcome_number refl;
  implied_without_time = apart map_outcome_number refl;
  identity_is_null = apart header_number refl;
  marked_is_null = apart bool_number refl;
  unmarked_is_identity = apart bool_number refl;
  timed_is_identity = apart bool_number refl;
  time_not_replaced = apart map_reply_number refl;
  time_of_65 = apart map_reply_number refl;
  out_unmoved = apart outcome_number refl;
  out_no_path = apart outcome_number refl;
  out_without_boundary = apart outcome_number refl;
  out_to_empty = apart outcome_number refl;
  list_refused_first = apart outcome_number refl;
  home_by_sources = apart outcome_number refl;
  home_unmoved = apart outcome_number refl;
  translated_plainly = apart outcome_number refl;
  translated_selection = apart outcome_number refl;
}
