-- Every wrong answer for a path with a target differs from the right one, by computing both.
use mathlib.Core.Path.{refl}
use Rattle.path_prefix.specs.Elements.{count_elements}
use Rattle.pair_list.specs.Places.{pairs_in}
use Rattle.path.specs.Calls.{path_new_call, is_end_call, has_variant_selection_call, has_prefix_call, element_count_call, prim_element_count_call}
use Rattle.path_derive.specs.Calls.{replace_prefix_call, parent_call, prim_path_call, split_property_call, strip_call, ancestors_reply}
use Rattle.path_target.specs.Calls.{embedded_target_call, replace_embedded_target_call}
use Rattle.map_spec.specs.Leg.{translate_checked, map_back_checked}
use Rattle.relocate_chain.specs.Calls.{chain_call, shift_call}
use Rattle.route_spec.specs.Leg.{outward, homeward}
use Rattle.route.specs.Calls.{route_call}
use Rattle.cases.specs.Lent.{store_of, places_of, lent_pairs}
use Rattle.cases.specs.WrongTargets.{WrongTargets}
use Rattle.cases.proofs.Tell.{apart, validation_number, test_number, count_number, reply_number, outcome_number, chain_number}

pub wrong_targets : WrongTargets
unfolding count_elements pairs_in store_of places_of lent_pairs path_new_call is_end_call has_variant_selection_call has_prefix_call element_count_call prim_element_count_call replace_prefix_call parent_call prim_path_call split_property_call strip_call ancestors_reply
    embedded_target_call replace_embedded_target_call translate_checked map_back_checked chain_call shift_call outward homeward route_call validation_number test_number count_number reply_number outcome_number chain_number
wrong_targets = record {
  target_refused = apart validation_number refl;
  root_refused = apart validation_number refl;
  fourth_bracket_refused = apart validation_number refl;
  fifth_bracket = apart validation_number refl;
  bracket_after_selection = apart validation_number refl;
  bracket_after_name = apart validation_number refl;
  nothing_in_brackets = apart validation_number refl;
  relative_in_brackets = apart validation_number refl;
  property_after_brackets = apart validation_number refl;
  second_brackets = apart validation_number refl;
  unclosed = apart validation_number refl;
  target_is_end = apart test_number refl;
  selection_inside = apart test_number refl;
  elements_inside = apart count_number refl;
  names_inside = apart count_number refl;
  bracket_is_boundary = apart test_number refl;
  parent_is_prim = apart outcome_number refl;
  parent_inside = apart outcome_number refl;
  prim_is_property = apart outcome_number refl;
  split_before_target = apart outcome_number refl;
  strip_inside = apart outcome_number refl;
  strip_drops_target = apart outcome_number refl;
  ancestors_without_property = apart reply_number refl;
  ancestors_of_target = apart reply_number refl;
  target_replaced = apart outcome_number refl;
  target_lost = apart outcome_number refl;
  target_translated = apart outcome_number refl;
  target_translated_stripped = apart outcome_number refl;
  target_mapped_back = apart outcome_number refl;
  target_chained = apart chain_number refl;
  target_shifted = apart outcome_number refl;
  target_routed = apart outcome_number refl;
  target_routed_stripped = apart outcome_number refl;
  target_routed_home = apart outcome_number refl;
  embedded_first_close = apart outcome_number refl;
  embedded_with_brackets = apart outcome_number refl;
  embedded_innermost = apart outcome_number refl;
  embedded_never = apart outcome_number refl;
  embedded_empty = apart outcome_number refl;
  embedded_kept = apart outcome_number refl;
  embedded_inner_replaced = apart outcome_number refl;
  embedded_by_nothing = apart outcome_number refl;
  embedded_too_deep = apart outcome_number refl;
  embedded_eight = apart outcome_number refl;
}
