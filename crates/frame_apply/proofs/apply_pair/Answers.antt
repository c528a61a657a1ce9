use Rattle.frame_apply.proofs.ApplyBranches.{pair_done, pair_refused}
use Rattle.frame_apply.proofs.apply_pair.Goals as goal

pub returns-in-Ok : goal.returns-in-Ok
returns-in-Ok c =
    pair_done _ _ _ _ _ _ c.add_pair-a.ensures.value _ c.add_pair-a.ensures.bytes_after _ c.add_pair-a.ensures.places_after _
    c.in-Ok.is

pub returns-in-Err : goal.returns-in-Err
returns-in-Err c =
    pair_refused _ _ _ _ _ _ c.add_pair-a.ensures.value _ c.add_pair-a.ensures.bytes_after _ c.add_pair-a.ensures.places_after _
    c.in-Err.is
