use Rattle.frame_answer.proofs.ApplyBranches.{statuses_given}
use Rattle.frame_answer.proofs.apply_statuses.Goals as goal

pub returns : goal.returns
returns c =
    statuses_given _ _ _ _ _ c.requires _ c.analyze_relocate_occurrences.ensures.value
    c.analyze_relocate_occurrences.ensures.out_after
