use mathlib.Core.Path.{◌∙◌}
use Rattle.frame_apply.proofs.ApplyBranches.{count_written}
use Rattle.frame_answer.proofs.ApplyBranches.{count_held}
use Rattle.frame_answer.proofs.write_count.Goals as goal

pub returns : goal.returns
returns c =
    let count = c.unwrap_or-count.ensures ∙ count_held _ _ c.try_from.ensures in
    count_written _ _ _ c.requires (rw (c.to_be_bytes.ensures, count) at c.write_at.ensures)
