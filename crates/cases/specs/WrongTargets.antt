-- Meaning: Wrong answers of the calls for paths with a target in brackets. Each field names an input and an answer that the definition of the call
-- excludes; the comment says which mistake would give that answer.
use Rattle.std.specs.Prelude.{◌≢◌, true, false, [], ◌++◌, replicate, Ok, Err, None}
use Rattle.text.specs.Text.{bytes}
use Rattle.text.specs.Bytes.{upper_a}
use Rattle.refusal.specs.declared.Refusal.TheVariants.{Illegal, NoPath, MadeIllegal}
use Rattle.refusal.specs.Outcome.{path, refused}
use Rattle.path.specs.Calls.{path_new_call, is_end_call, has_variant_selection_call, has_prefix_call, element_count_call, prim_element_count_call}
use Rattle.path_derive.specs.Calls.{replace_prefix_call, parent_call, prim_path_call, split_property_call, strip_call, ancestors_reply}
use Rattle.path_target.specs.Calls.{embedded_target_call, replace_embedded_target_call}
use Rattle.map_spec.specs.Leg.{translate_checked, map_back_checked}
use Rattle.relocate_chain.specs.Chain.{chained}
use Rattle.relocate_chain.specs.Calls.{chain_call, shift_call}
use Rattle.route.specs.Calls.{route_call}
use Rattle.cases.specs.Lent.{unmarked_map, lent_pairs}
use Rattle.cases.specs.WrongMaps.{a_to_b_list}
use Rattle.cases.specs.WrongRelocates.{two_legs}

pub record WrongTargets : Type 0 where
  -- `new`: no path in brackets is legal; a fifth bracket; a bracket after a selection or a name; nothing, or a relative path, in the brackets;
  -- something after them.
  pub target_refused : path_new_call (bytes "/L/S.next[/L/T]") ≢ Err Illegal
  pub root_refused : path_new_call (bytes "/A.r[/]") ≢ Err Illegal
  pub fourth_bracket_refused : path_new_call (bytes "/A.r[/B.s[/C.t[/D.u[/E]]]]") ≢ Err Illegal
  pub fifth_bracket : path_new_call (bytes "/A.r[/B.s[/C.t[/D.u[/E.v[/F]]]]]") ≢ Ok tt
  pub bracket_after_selection : path_new_call (bytes "/A{v=p}[/C]") ≢ Ok tt
  pub bracket_after_name : path_new_call (bytes "/A[/C]") ≢ Ok tt
  pub nothing_in_brackets : path_new_call (bytes "/A.r[]") ≢ Ok tt
  pub relative_in_brackets : path_new_call (bytes "/A.r[T]") ≢ Ok tt
  pub property_after_brackets : path_new_call (bytes "/A.r[/T].x") ≢ Ok tt
  pub second_brackets : path_new_call (bytes "/A.r[/T][/U]") ≢ Ok tt
  pub unclosed : path_new_call (bytes "/A.r[/T") ≢ Ok tt
  -- `is_end`: a path with a target is an end.
  pub target_is_end : is_end_call (bytes "/A.r[/T]") ≢ Ok true
  -- `has_variant_selection`, `element_count`, `prim_element_count`: selections and names inside brackets count.
  pub selection_inside : has_variant_selection_call (bytes "/A.r[/T{v=p}]") ≢ Ok true
  pub elements_inside : element_count_call (bytes "/A.r[/B/C]") ≢ Ok (record { 0 = 3 })
  pub names_inside : prim_element_count_call (bytes "/A.r[/B/C]") ≢ Ok (record { 0 = 3 })
  -- `has_prefix`: a bracket is a boundary.
  pub bracket_is_boundary : has_prefix_call (bytes "/A.r[/T]") (bytes "/A.r") ≢ Ok true
  -- `parent`: the property lost; the last name inside the brackets dropped. `prim_path`: the property kept.
  pub parent_is_prim : parent_call (bytes "/A.r[/T]") 255 ≢ path (bytes "/A")
  pub parent_inside : parent_call (bytes "/A.r[/T/U]") 255 ≢ path (bytes "/A.r[/T]")
  pub prim_is_property : prim_path_call (bytes "/A.r[/T]") 255 ≢ path (bytes "/A.r")
  -- `split_property`: a path with a target is split.
  pub split_before_target : split_property_call (bytes "/A.r[/T]") 255 ≢ path (bytes "/A")
  -- `strip_variant_selections`: selections inside brackets stripped; the target lost.
  pub strip_inside : strip_call (bytes "/A{v=p}B.r[/T{w=q}C]") 255 ≢ path (bytes "/A/B.r[/T/C]")
  pub strip_drops_target : strip_call (bytes "/A{v=p}.r[/T]") 255 ≢ path (bytes "/A.r")
  -- `ancestors`: the property is not an ancestor of `/L/S.next[/L/T]`; those of the target are.
  pub ancestors_without_property : ancestors_reply (bytes "/L/S.next[/L/T]") 8 ≢ Ok 4
  pub ancestors_of_target : ancestors_reply (bytes "/L/S.next[/L/T]") 8 ≢ Ok 7
  -- `replace_prefix`: the target moved too; the target lost.
  pub target_replaced : replace_prefix_call (bytes "/A.r[/A]") (bytes "/A") (bytes "/B") 255 ≢ path (bytes "/B.r[/B]")
  pub target_lost : replace_prefix_call (bytes "/A.r[/A]") (bytes "/A") (bytes "/B") 255 ≢ path (bytes "/B.r")
  -- Translation, plainly back, chaining, shifting and routes: the target moved too; translation and a route that strip inside brackets.
  pub target_translated : translate_checked (unmarked_map a_to_b_list) (bytes "/A.r[/A]") ≢ path (bytes "/B.r[/B]")
  pub target_translated_stripped : translate_checked (unmarked_map a_to_b_list) (bytes "/A.r[/A{v=p}]") ≢ path (bytes "/B.r[/A]")
  pub target_mapped_back : map_back_checked (unmarked_map a_to_b_list) (bytes "/B.r[/B]") ≢ path (bytes "/A.r[/A]")
  pub target_chained : chain_call (lent_pairs a_to_b_list) None (bytes "/A.r[/A]") 255 ≢ chained (bytes "/B.r[/B]") 1
  pub target_shifted : shift_call (lent_pairs a_to_b_list) (bytes "/A/c.r[/A/c]") 255 ≢ path (bytes "/B/c.r[/B/c]")
  pub target_routed : route_call false two_legs (bytes "/A.r[/A]") 255 ≢ path (bytes "/C.r[/C]")
  pub target_routed_stripped : route_call false two_legs (bytes "/A.r[/A{v=p}]") 255 ≢ path (bytes "/C.r[/A]")
  pub target_routed_home : route_call true two_legs (bytes "/C.r[/C]") 255 ≢ path (bytes "/A.r[/A]")
  -- `embedded_target`: the first closing bracket taken; with the brackets; the innermost target; 6 for a path with a target.
  pub embedded_first_close : embedded_target_call (bytes "/A.r[/B.s[/C]]") 255 ≢ path (bytes "/B.s[/C")
  pub embedded_with_brackets : embedded_target_call (bytes "/A.r[/T]") 255 ≢ path (bytes "[/T]")
  pub embedded_innermost : embedded_target_call (bytes "/A.r[/B.s[/C]]") 255 ≢ path (bytes "/C")
  pub embedded_never : embedded_target_call (bytes "/A.r[/T]") 255 ≢ refused NoPath
  pub embedded_empty : embedded_target_call (bytes "/A.r") 255 ≢ path []
  -- `replace_embedded_target`: the path unmoved; the innermost target replaced; the empty target, and a fifth bracket, accepted; 8 for 7.
  pub embedded_kept : replace_embedded_target_call (bytes "/A.r[/T]") (bytes "/U") 255 ≢ path (bytes "/A.r[/T]")
  pub embedded_inner_replaced : replace_embedded_target_call (bytes "/A.r[/B.s[/C]]") (bytes "/U") 255 ≢ path (bytes "/A.r[/B.s[/U]]")
  pub embedded_by_nothing : replace_embedded_target_call (bytes "/A.r[/T]") [] 255 ≢ path (bytes "/A.r[]")
  pub embedded_too_deep : replace_embedded_target_call (bytes "/A.r[/T]") (bytes "/B.s[/C.t[/D.u[/E.v[/F]]]]") 255 ≢ path (bytes "/A.r[/B.s[/C.t[/D.u[/E.v[/F]]]]]")
  pub embedded_eight : replace_embedded_target_call (bytes "/A.r[/T]") (bytes "/" ++ replicate 254 upper_a) 255 ≢ refused MadeIllegal
