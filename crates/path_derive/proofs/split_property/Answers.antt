use mathlib.Core.Path.{ap, ◌∙◌}
use Rattle.path_parts.proofs.ParentLaws.{prim_len_le}
use Rattle.refusal.specs.Outcome.{checked_option}
use Rattle.path_derive.proofs.UnfoldedCalls.{split_unfolded}
use Rattle.refusal.proofs.CallBranches.{answered_passed, answering}
use Rattle.path_derive.proofs.PartBranches.{prim_written, cut_length, split_some}
use Rattle.refusal.proofs.PassedLaws.{passed_short, passed_legal}
use mathlib.Core.Bool.{not}
use Rattle.path_derive.proofs.split_property.Goals as goal

pub slice_bounds-write_at-end : goal.slice_bounds-write_at-end
slice_bounds-write_at-end c = cut_length _ _ _ c.prim_len-n.ensures (prim_len_le _)

pub returns : goal.returns
unfolding checked_option
returns c =
    answering _ _
    (split_unfolded _ _ ∙ answered_passed _ _ _ _ c.validate_texts.ensures c.in_ok-validate_texts.was
    c.if-out-lt255.false ∙ ap checked_option (split_some _ _ c.is_property.ensures (ap not c.if-not-is_property.false)))
    _ _ _
    (prim_written _ _ c.prim_len-n.ensures
    (passed_short _ _ c.validate_texts.ensures c.in_ok-validate_texts.was)
    (passed_legal _ _ c.validate_texts.ensures c.in_ok-validate_texts.was) _ _ c.if-out-lt255.false
    c.write_at.ensures)
