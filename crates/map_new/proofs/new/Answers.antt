use mathlib.Core.Path.{sym, ◌∙◌}
use lib.Ieee.{of_bits}
use Rattle.map_function.proofs.NewBranches.{gives_map}
use Rattle.map_new.proofs.NewBranches.{made_passed, held_passed, new_parts, new_unfolded}
use Rattle.map_new.proofs.new.Goals as goal

pub returns : goal.returns
unfolding of_bits
returns c =
    gives_map _ _
    (new_unfolded _ _ _ _ _ ∙ made_passed _ _ _ _ _ _ _ c.validate_list.ensures c.in_ok-validate_list.was ∙ new_parts _
    _ _ _ ∙ sym (held_passed _ _ _ (sym c.validate_list.ensures ∙ c.in_ok-validate_list.was) _))
    _ _ _ _ _ c.from_parts.ensures
