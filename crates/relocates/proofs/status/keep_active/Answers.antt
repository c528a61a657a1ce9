use Rattle.relocates.proofs.ActiveBranches.{active_left, active_kept}
use Rattle.text.proofs.Clauses.{value_kept_after}
use Rattle.relocates.proofs.status.keep_active.Goals as goal

pub returns-then-status-ne0 : goal.returns-then-status-ne0
returns-then-status-ne0 c = value_kept_after (active_left _ _ _ _ _ c.if-status-ne0.true)

pub returns : goal.returns
returns c = value_kept_after (active_kept _ _ _ _ _ c.if-status-ne0.false _ c.copy_entry.ensures)
