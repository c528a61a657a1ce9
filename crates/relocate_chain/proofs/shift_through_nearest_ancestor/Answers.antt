use Rattle.std.proofs.Common.{rules, Err, ◌≡◌}
use mathlib.Core.Path.{◌∙◌}
use Rattle.refusal.proofs.CallBranches.{answered_refused, answered_short, answered_passed, refusing, answering}
use Rattle.relocate_chain.proofs.CallBranches.{shift_validated, passed_path}
use Rattle.relocate_chain.proofs.shift_through_nearest_ancestor.Goals as goal

pub returns-in_err-validate_list_and_path : goal.returns-in_err-validate_list_and_path
returns-in_err-validate_list_and_path c = let r : c.from_residual.result ≡ Err c.in_err-validate_list_and_path.field-0.0 = search rules in rw r (refusing _ _ (shift_validated _ _ _ ∙ answered_refused _ _ _ _ c.validate_list_and_path.ensures _ c.in_err-validate_list_and_path.was) _)

pub returns-then-out-lt255 : goal.returns-then-out-lt255
returns-then-out-lt255 c = refusing _ _ (shift_validated _ _ _ ∙ answered_short _ _ _ _ c.validate_list_and_path.ensures c.in_ok-validate_list_and_path.was c.if-out-lt255.true) _

pub shift_and_copy-requires : goal.shift_and_copy-requires
shift_and_copy-requires c = (passed_path _ _ _ c.validate_list_and_path.ensures c.in_ok-validate_list_and_path.was, c.if-out-lt255.false)

pub returns : goal.returns
returns c =
    answering _ _
    (shift_validated _ _ _ ∙ answered_passed _ _ _ _ c.validate_list_and_path.ensures c.in_ok-validate_list_and_path.was
    c.if-out-lt255.false)
    _ _ _ c.shift_and_copy.ensures
