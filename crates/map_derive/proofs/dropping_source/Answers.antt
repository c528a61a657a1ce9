use mathlib.Core.Path.{refl, sym, ◌∙◌}
use native.Mathlib.Omega.{arith}
use Rattle.validate.proofs.PassedLaws.{first_sound}
use Rattle.map_function.proofs.NewBranches.{gives_map}
use Rattle.map_derive.proofs.ListBranches.{left_all, left_some, left_few}
use Rattle.map_new.proofs.NewBranches.{made_passed, held_passed, own_parts}
use Rattle.map_derive.proofs.DeriveBranches.{dropped_none, dropped_some, end_validated, dropping_unfolded}
use Rattle.map_derive.proofs.dropping_source.Goals as goal

pub without_source-w-requires : goal.without_source-w-requires
without_source-w-requires c =
    record {
      n_in_bounds = omega (arith, (first_sound _ _ _ _ (sym c.validate_call.ensures ∙ c.in_ok-validate_call.was)).held);
      n_in_bounds_2 = omega (arith, (first_sound _ _ _ _ (sym c.validate_call.ensures ∙ c.in_ok-validate_call.was)).few);
    }

pub returns-then-w-n : goal.returns-then-w-n
returns-then-w-n c =
    gives_map _ _
    (dropping_unfolded _ _ _ _ _ _ ∙ made_passed _ _ _ _ _ _ _ (c.validate_call.ensures ∙ end_validated _ _ _ refl)
    c.in_ok-validate_call.was ∙ dropped_none _ _ _ _ _ _
    (left_all _ _ _ _ _ _ c.without_source-w.ensures c.if-w-n.true) ∙ sym
    (held_passed _ _ _ (sym c.validate_call.ensures ∙ c.in_ok-validate_call.was) _))
    _ _ _ _ _ c.without_dropping.ensures

pub returns : goal.returns
returns c =
    gives_map _ _
    (dropping_unfolded _ _ _ _ _ _ ∙ made_passed _ _ _ _ _ _ _ (c.validate_call.ensures ∙ end_validated _ _ _ refl)
    c.in_ok-validate_call.was ∙ dropped_some _ _ _ _ _ _
    (left_some _ _ _ _ _ _ c.without_source-w.ensures c.if-w-n.false) ∙ own_parts _ _ _ _ _ _ _ _
    c.without_source-w.ensures
    (omega (
      arith,
      left_few _ _ _ _ _ _ c.without_source-w.ensures,
      (first_sound _ _ _ _ (sym c.validate_call.ensures ∙ c.in_ok-validate_call.was)).few,
    )))
    _ _ _ _ _ c.from_parts.ensures
