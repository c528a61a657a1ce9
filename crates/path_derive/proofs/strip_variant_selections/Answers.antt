use mathlib.Core.Path.{◌∙◌}
use Rattle.path_derive.proofs.UnfoldedCalls.{strip_unfolded}
use Rattle.refusal.proofs.CallBranches.{answered_passed, answering}
use Rattle.path_derive.proofs.PartBranches.{strip_returned}
use Rattle.refusal.proofs.PassedLaws.{passed_short, passed_legal}
use Rattle.path_derive.proofs.strip_variant_selections.Goals as goal

pub returns : goal.returns
returns c =
    answering _ _
    (strip_unfolded _ _ ∙ answered_passed _ _ _ _ c.validate_texts.ensures c.in_ok-validate_texts.was
    c.if-out-lt255.false)
    _ _ _
    (rw c.ok_or.ensures.value (strip_returned _ _ _ _ (passed_short _ _ c.validate_texts.ensures c.in_ok-validate_texts.was) c.if-out-lt255.false
    c.strip_into.ensures.value
    (passed_legal _ _ c.validate_texts.ensures c.in_ok-validate_texts.was) c.strip_into.ensures.out_after))
