-- Every wrong answer for names outside ASCII differs from the right one, by computing both.
use mathlib.Core.Path.{refl}
use Rattle.characters.specs.Utf8.{encode, encode_all}
use Rattle.path_prefix.specs.Elements.{count_elements}
use Rattle.path.specs.Calls.{path_new_call, is_end_call, has_prefix_call, prim_element_count_call}
use Rattle.path_derive.specs.Calls.{replace_prefix_call, parent_call, strip_call, ancestors_reply}
use Rattle.cases.specs.WrongNames.{WrongNames}
use Rattle.cases.proofs.Tell.{apart, validation_number, test_number, count_number, reply_number, outcome_number}

pub wrong_names : WrongNames
unfolding encode encode_all count_elements path_new_call is_end_call has_prefix_call prim_element_count_call replace_prefix_call parent_call strip_call ancestors_reply
    validation_number test_number count_number reply_number outcome_number
wrong_names = record {
  ascii_only = apart validation_number refl;
  not_first = apart validation_number refl;
  ascii_property = apart validation_number refl;
  ascii_set = apart validation_number refl;
  ascii_after_selection = apart validation_number refl;
  ascii_target = apart validation_number refl;
  sel_widened = apart validation_number refl;
  control_80 = apart validation_number refl;
  control_9_f = apart validation_number refl;
  no_break_space = apart validation_number refl;
  ogham_space = apart validation_number refl;
  en_quad = apart validation_number refl;
  hair_space = apart validation_number refl;
  line_separator = apart validation_number refl;
  paragraph_separator = apart validation_number refl;
  narrow_space = apart validation_number refl;
  mathematical_space = apart validation_number refl;
  ideographic_space = apart validation_number refl;
  above_control = apart validation_number refl;
  zero_width_space = apart validation_number refl;
  accent = apart validation_number refl;
  above_ideographic = apart validation_number refl;
  below_surrogates = apart validation_number refl;
  above_surrogates = apart validation_number refl;
  last_character = apart validation_number refl;
  surrogate = apart validation_number refl;
  last_surrogate = apart validation_number refl;
  overlong_slash = apart validation_number refl;
  overlong_slash_three = apart validation_number refl;
  overlong_letter = apart validation_number refl;
  overlong_four = apart validation_number refl;
  above_all = apart validation_number refl;
  stray = apart validation_number refl;
  no_first_byte = apart validation_number refl;
  cut_off = apart validation_number refl;
  cut_by_slash = apart validation_number refl;
  cut_by_character = apart validation_number refl;
  malformed_first = apart validation_number refl;
  limit_of_characters = apart validation_number refl;
  limit_too_low = apart validation_number refl;
  ascii_end = apart test_number refl;
  malformed_end = apart test_number refl;
  character_is_boundary = apart test_number refl;
  name_not_counted = apart count_number refl;
  parent_too_short = apart outcome_number refl;
  ancestors_too_few = apart reply_number refl;
  parent_cuts = apart outcome_number refl;
  strip_without_slash = apart outcome_number refl;
  joined_without_slash = apart outcome_number refl;
  joined_no_path = apart outcome_number refl;
}
