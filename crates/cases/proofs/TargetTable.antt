-- The worked examples of paths with a target, by computing.
use mathlib.Core.Path.{refl}
use Rattle.path_prefix.specs.Elements.{count_elements}
use Rattle.path.specs.Calls.{element_count_call, prim_element_count_call}
use Rattle.path_parts.specs.Parent.{ancestor_lens}
use Rattle.path_derive.specs.Calls.{parent_call, prim_path_call, strip_call}
use Rattle.path_target.specs.Calls.{embedded_target_call}
use Rattle.cases.specs.TargetTable.{TargetTable}

pub target_table : TargetTable
unfolding count_elements element_count_call prim_element_count_call ancestor_lens parent_call prim_path_call strip_call embedded_target_call
target_table = record {
  signal = record { parent_is = refl; prim_is = refl; elements_are = refl; names_are = refl; strip_is = refl; target_is = refl; lengths_are = refl };
  to_root = record { parent_is = refl; prim_is = refl; elements_are = refl; names_are = refl; strip_is = refl; target_is = refl; lengths_are = refl };
  own_selection = record { parent_is = refl; prim_is = refl; elements_are = refl; names_are = refl; strip_is = refl; target_is = refl; lengths_are = refl };
  both_selections = record { parent_is = refl; prim_is = refl; elements_are = refl; names_are = refl; strip_is = refl; target_is = refl; lengths_are = refl };
  four_deep = record { parent_is = refl; prim_is = refl; elements_are = refl; names_are = refl; strip_is = refl; target_is = refl; lengths_are = refl };
}
