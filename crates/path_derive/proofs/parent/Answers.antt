use Rattle.std.proofs.Common.{rules, length, ◌≢◌}
use borrow.Author.Tests.{tests}
use mathlib.Core.Path.{ap, ◌∙◌}
use Rattle.path_parts.proofs.ParentLaws.{parent_len_le, parent_take}
use Rattle.refusal.specs.Outcome.{checked_option}
use Rattle.path_derive.proofs.UnfoldedCalls.{parent_unfolded}
use Rattle.refusal.proofs.CallBranches.{answered_passed, answering}
use Rattle.path_derive.proofs.PartBranches.{cut_written, cut_length, parent_cut}
use Rattle.refusal.proofs.PassedLaws.{passed_short, passed_legal}
use Rattle.path_derive.proofs.parent.Goals as goal

pub slice_bounds-write_at-end : goal.slice_bounds-write_at-end
slice_bounds-write_at-end c = cut_length _ _ _ c.parent_len-n.ensures (parent_len_le _)

pub returns : goal.returns
unfolding checked_option
returns c =
    let ne : length c.args.path.now ≢ 0 = search (rules, tests) in
    answering _ _
    (parent_unfolded _ _ ∙ answered_passed _ _ _ _ c.validate_texts.ensures c.in_ok-validate_texts.was
    c.if-out-lt255.false ∙ ap checked_option (parent_cut _ _ ne c.is_root.ensures c.if-is_root.false))
    _ _ _
    (cut_written _ _ _ c.parent_len-n.ensures (parent_len_le _)
    (passed_short _ _ c.validate_texts.ensures c.in_ok-validate_texts.was)
    (parent_take _ (passed_legal _ _ c.validate_texts.ensures c.in_ok-validate_texts.was)) _ _ c.if-out-lt255.false
    c.write_at.ensures)
