use mathlib.Core.Path.{◌∙◌}
use Rattle.path_parts.proofs.ParentLaws.{prim_len_le}
use Rattle.path_derive.proofs.UnfoldedCalls.{prim_unfolded}
use Rattle.refusal.proofs.CallBranches.{answered_passed, answering}
use Rattle.path_derive.proofs.PartBranches.{prim_written, cut_length}
use Rattle.refusal.proofs.PassedLaws.{passed_short, passed_legal}
use Rattle.path_derive.proofs.prim_path.Goals as goal

pub slice_bounds-write_at-end : goal.slice_bounds-write_at-end
slice_bounds-write_at-end c = cut_length _ _ _ c.prim_len-n.ensures (prim_len_le _)

pub returns : goal.returns
returns c =
    answering _ _
    (prim_unfolded _ _ ∙ answered_passed _ _ _ _ c.validate_texts.ensures c.in_ok-validate_texts.was c.if-out-lt255.false)
    _ _ _
    (prim_written _ _ c.prim_len-n.ensures
    (passed_short _ _ c.validate_texts.ensures c.in_ok-validate_texts.was)
    (passed_legal _ _ c.validate_texts.ensures c.in_ok-validate_texts.was) _ _ c.if-out-lt255.false
    c.write_at.ensures)
