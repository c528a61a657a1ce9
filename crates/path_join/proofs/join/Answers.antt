-- The three writes, each where the one before it ends, are one write of the joined text.
use Rattle.path_join.proofs.JoinBranches.{join_over, join_fits}
use Rattle.text.proofs.Clauses.{value_out_after}
use Rattle.path_join.proofs.join.Goals as goal

pub returns-then-out-len : goal.returns-then-out-len
returns-then-out-len c = value_out_after (join_over _ _ _ _ _ c.layout_of-layout.ensures _ c.if-out-len.true)

pub returns : goal.returns
returns c =
    value_out_after (join_fits _ _ _ _ _ c.layout_of-layout.ensures _ _ _ _ c.if-out-len.false
    c.write_at.ensures c.write_separator.ensures c.write_at-2.ensures)
