use mathlib.Core.Path.{◌∙◌}
use Rattle.refusal.proofs.CallBranches.{answered_passed, answering}
use Rattle.path_target.proofs.CallLaws.{embedded_unfolded, embedded_written}
use Rattle.path_target.proofs.embedded_target.Goals as goal

pub returns : goal.returns
returns c =
    let valid = c.validate_texts.ensures in
    let passes = c.in_ok-validate_texts.was in
    answering _ _ (embedded_unfolded _ _ ∙ answered_passed _ _ _ _ valid passes c.if-out-lt255.false) _ _ _
    (embedded_written _ _ valid passes _ c.target_text-target.ensures _ _ c.if-target-eq0.false c.if-out-lt255.false
    c.write_at.ensures)
