-- Meaning: Wrong answers of the calls on paths. Each field names an input and an answer that the definition of the call excludes; the comment says which
-- mistake would give that answer.
use Rattle.std.specs.Prelude.{◌≢◌, true, false, [], get_or, replicate, Ok, Err}
use Rattle.text.specs.Text.{bytes}
use Rattle.text.specs.Bytes.{lower_a, slash}
use Rattle.refusal.specs.declared.Refusal.TheVariants.{Illegal, NoRoom, NoPath, MadeTooLong, MadeIllegal}
use Rattle.refusal.specs.Outcome.{path, refused, outcome_buffer}
use Rattle.path.specs.Calls.{path_new_call, is_end_call, has_variant_selection_call, has_prefix_call, element_count_call, prim_element_count_call}
use Rattle.path_derive.specs.Calls.{replace_prefix_call, parent_call, prim_path_call, split_property_call, strip_call, ancestors_reply}

pub record WrongPaths : Type 0 where
  -- `new` accepts every text; refuses every text; puts question 2 before question 1.
  pub new_accepts_all : path_new_call (bytes "A") ≢ Ok tt
  pub new_refuses_all : path_new_call (bytes "/A") ≢ Err Illegal
  pub new_legal_first : path_new_call (replicate 256 65) ≢ Err Illegal
  -- A digit begins a name; a slash follows a selection; a name may not follow one.
  pub digit_begins_name : path_new_call (bytes "/1") ≢ Ok tt
  pub slash_after_selection : path_new_call (bytes "/A{v=p}/B") ≢ Ok tt
  pub no_name_after_selection : path_new_call (bytes "/A{v=p}B") ≢ Err Illegal
  -- `is_end`: a property or a selection is an end; nothing is one.
  pub property_is_end : is_end_call (bytes "/A.b") ≢ Ok true
  pub selection_is_end : is_end_call (bytes "/A{v=p}") ≢ Ok true
  pub prim_is_no_end : is_end_call (bytes "/A") ≢ Ok false
  -- `has_variant_selection`: a property counts; a selection does not.
  pub property_is_selection : has_variant_selection_call (bytes "/A.b") ≢ Ok true
  pub selection_not_seen : has_variant_selection_call (bytes "/A{v=p}") ≢ Ok false
  -- `has_prefix`: bytes without a boundary; the arguments swapped; no path has a prefix; the prefix not scanned; question 2 put to the path before
  -- question 1 to the prefix.
  pub prefix_without_boundary : has_prefix_call (bytes "/AB") (bytes "/A") ≢ Ok true
  pub prefix_swapped : has_prefix_call (bytes "/A") (bytes "/A/B") ≢ Ok true
  pub prefix_never : has_prefix_call (bytes "/A/B") (bytes "/A") ≢ Ok false
  pub prefix_unscanned : has_prefix_call (bytes "/A") (bytes "A") ≢ Ok false
  pub prefix_legal_first : has_prefix_call (bytes "A") (replicate 256 65) ≢ Err Illegal
  -- `element_count` without the selections, `prim_element_count` with them.
  pub elements_are_names : element_count_call (bytes "/A{v=p}") ≢ Ok (record { 0 = 1 })
  pub names_are_elements : prim_element_count_call (bytes "/A{v=p}") ≢ Ok (record { 0 = 2 })
  -- `replace_prefix`: the path unmoved; the slash missing or doubled; 5 without comparing lengths; question 5 before question 2; 7 for 8.
  pub replaced_unmoved : replace_prefix_call (bytes "/A/D") (bytes "/A") (bytes "/B") 255 ≢ path (bytes "/A/D")
  pub replaced_without_slash : replace_prefix_call (bytes "/A{v=p}B") (bytes "/A{v=p}") (bytes "/C") 255 ≢ path (bytes "/CB")
  pub replaced_with_slash : replace_prefix_call (bytes "/A/B") (bytes "/A") (bytes "/C{v=p}") 255 ≢ path (bytes "/C{v=p}/B")
  -- .. the remainder written over the separator; its own slash kept, and the result refused for that; a slash after the last byte of an exact match.
  pub replaced_over_separator : replace_prefix_call (bytes "/A/B") (bytes "/A") (bytes "/C") 255 ≢ path (bytes "/CB")
  pub replaced_own_slash : replace_prefix_call (bytes "/A/B") (bytes "/A") (bytes "/C") 255 ≢ path (bytes "/C//B")
  pub replaced_own_slash_refused : replace_prefix_call (bytes "/A/B") (bytes "/A") (bytes "/C") 255 ≢ refused MadeIllegal
  pub replaced_slash_beyond : get_or (outcome_buffer (replace_prefix_call (bytes "/A") (bytes "/A") (bytes "/C") 255) (replicate 255 lower_a)) 2 0 ≢ slash
  pub replaced_no_room : replace_prefix_call (bytes "/A/D") (bytes "/A") (bytes "/B") 255 ≢ refused NoRoom
  pub replaced_room_first : replace_prefix_call (bytes "A") (bytes "/A") (bytes "/B") 0 ≢ refused NoRoom
  pub replaced_seven : replace_prefix_call (bytes "/A.b") (bytes "/A") (bytes "/") 255 ≢ refused MadeTooLong
  -- `parent`: the prim of a property lost; the selection lost; `/` and the empty path have a parent.
  pub parent_of_property : parent_call (bytes "/A.b") 255 ≢ path (bytes "/")
  pub parent_in_selection : parent_call (bytes "/A{v=p}B") 255 ≢ path (bytes "/A")
  pub parent_of_root : parent_call (bytes "/") 255 ≢ path []
  pub parent_of_empty : parent_call [] 255 ≢ path []
  -- `prim_path`: the selections stripped; the property kept.
  pub prim_stripped : prim_path_call (bytes "/A{v=p}.b") 255 ≢ path (bytes "/A")
  pub prim_unmoved : prim_path_call (bytes "/A.b") 255 ≢ path (bytes "/A.b")
  -- `split_property`: the parent of a path without a property; no path for a property.
  pub split_is_parent : split_property_call (bytes "/A/B") 255 ≢ path (bytes "/A")
  pub split_never : split_property_call (bytes "/A.b") 255 ≢ refused NoPath
  -- `strip_variant_selections`: the selections kept; no slash in their place.
  pub strip_unmoved : strip_call (bytes "/A{v=p}B") 255 ≢ path (bytes "/A{v=p}B")
  pub strip_joined : strip_call (bytes "/A{v=p}B") 255 ≢ path (bytes "/AB")
  -- `ancestors`: one number for all three paths `/A/B`, `/A` and `/`; the path itself, or `/`, not counted.
  pub ancestors_one_number : ancestors_reply (bytes "/A/B") 1 ≢ Ok 1
  pub ancestors_two : ancestors_reply (bytes "/A/B") 3 ≢ Ok 2
