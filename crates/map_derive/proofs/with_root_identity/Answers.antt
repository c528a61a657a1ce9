use mathlib.Core.Path.{sym, ◌∙◌}
use Rattle.map_function.proofs.NewBranches.{gives_map}
use Rattle.map_new.proofs.NewBranches.{made_passed, held_passed}
use Rattle.map_derive.proofs.DeriveBranches.{marked_copy, marked_unfolded}
use Rattle.map_derive.proofs.with_root_identity.Goals as goal

pub returns : goal.returns
returns c =
    gives_map _ _
    (marked_unfolded _ _ _ _ _ ∙ made_passed _ _ _ _ _ _ _ c.validate_list.ensures c.in_ok-validate_list.was ∙
    marked_copy _ _ _ _ _ ∙ sym (held_passed _ _ _ (sym c.validate_list.ensures ∙ c.in_ok-validate_list.was) _))
    _ _ _ _ _ c.without_dropping.ensures
