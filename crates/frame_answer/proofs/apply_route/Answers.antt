use Prim.Native.Nat.{◌-◌}
use lib.ListN.{length}
use Rattle.text.proofs.WriteLaws.{rest_whole}
use Rattle.frame_answer.proofs.ApplyBranches.{way_given}
use Rattle.frame_answer.proofs.apply_route.Goals as goal

pub returns : goal.returns
returns c =
    let b = c.args.frame.now in
    way_given _ _ _ _ _ _ _ _ _ _ c.requires.0 (rest_whole b (length b - c.args.n)) c.route_after.ensures.0
    c.route_after.ensures.1
