use native.Mathlib.Omega.{arith}
use Rattle.compose_pairs.proofs.PullBackBranches.{join_not}
use mathlib.Core.Path.{ap}
use mathlib.Core.Bool.{not}
use Rattle.compose_pairs.proofs.is_joined.Goals as goal

pub returns-then-not-last_is : goal.returns-then-not-last_is
returns-then-not-last_is c = join_not _ _ _ _ _ (omega arith) c.last_is.ensures (ap not c.if-not-last_is.true)
