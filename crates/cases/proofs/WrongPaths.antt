-- Every wrong answer of a call on paths differs from the right one, by computing both.
use mathlib.Core.Path.{refl}
use Prim.Native.Nat.{ℕ}
use Rattle.path_prefix.specs.Elements.{count_elements}
use Rattle.refusal.specs.Outcome.{outcome_buffer}
use Rattle.path.specs.Calls.{path_new_call, is_end_call, has_variant_selection_call, has_prefix_call, element_count_call, prim_element_count_call}
use Rattle.path_derive.specs.Calls.{replace_prefix_call, parent_call, prim_path_call, split_property_call, strip_call, ancestors_reply}
use Rattle.cases.specs.WrongPaths.{WrongPaths}
use Rattle.cases.proofs.Tell.{apart, validation_number, test_number, count_number, reply_number, outcome_number}

pub wrong_paths : WrongPaths
unfolding count_elements outcome_buffer path_new_call is_end_call has_variant_selection_call has_prefix_call element_count_call prim_element_count_call replace_prefix_call parent_call prim_path_call split_property_call strip_call ancestors_reply validation_number test_number count_number reply_number outcome_number
wrong_paths = record {
  new_accepts_all = apart validation_number refl;
  new_refuses_all = apart validation_number refl;
  new_legal_first = apart validation_number refl;
  digit_begins_name = apart validation_number refl;
  slash_after_selection = apart validation_number refl;
  no_name_after_selection = apart validation_number refl;
  property_is_end = apart test_number refl;
  selection_is_end = apart test_number refl;
  prim_is_no_end = apart test_number refl;
  property_is_selection = apart test_number refl;
  selection_not_seen = apart test_number refl;
  prefix_without_boundary = apart test_number refl;
  prefix_swapped = apart test_number refl;
  prefix_never = apart test_number refl;
  prefix_unscanned = apart test_number refl;
  prefix_legal_first = apart test_number refl;
  elements_are_names = apart count_number refl;
  names_are_elements = apart count_number refl;
  replaced_unmoved = apart outcome_number refl;
  replaced_without_slash = apart outcome_number refl;
  replaced_with_slash = apart outcome_number refl;
  replaced_over_separator = apart outcome_number refl;
  replaced_own_slash = apart outcome_number refl;
  replaced_own_slash_refused = apart outcome_number refl;
  replaced_slash_beyond = apart (λ (n : ℕ). n) refl;
  replaced_no_room = apart outcome_number refl;
  replaced_room_first = apart outcome_number refl;
  replaced_seven = apart outcome_number refl;
  parent_of_property = apart outcome_number refl;
  parent_in_selection = apart outcome_number refl;
  parent_of_root = apart outcome_number refl;
  parent_of_empty = apart outcome_number refl;
  prim_stripped = apart outcome_number refl;
  prim_unmoved = apart outcome_number refl;
  split_is_parent = apart outcome_number refl;
  split_never = apart outcome_number refl;
  strip_unmoved = apart outcome_number refl;
  strip_joined = apart outcome_number refl;
  ancestors_one_number = apart reply_number refl;
  ancestors_two = apart reply_number refl;
}
