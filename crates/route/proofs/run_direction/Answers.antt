use Rattle.route.proofs.CallBranches.{run_is}
use Rattle.route.proofs.run_direction.Goals as goal

pub returns-then-home : goal.returns-then-home
returns-then-home c = run_is _ _ _ _ _ _ _ _ c.if-home.true c.run_home.ensures

pub returns : goal.returns
returns c = run_is _ _ _ _ _ _ _ _ c.if-home.false c.run_out.ensures
