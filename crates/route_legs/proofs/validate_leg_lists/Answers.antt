use Rattle.route_legs.proofs.ValidateBranches.{lists_none, lists_on, lists_end}
use Rattle.route_legs.proofs.validate_leg_lists.Goals as goal

pub loop-k-init : goal.loop-k-init
loop-k-init c = lists_none _ _ _ _

pub loop-k-preserved : goal.loop-k-preserved
loop-k-preserved c = lists_on _ _ _ _ _ _ _ _ c.loop-k.invariant c.validate_leg.ensures c.first_refusal-q.ensures

pub returns : goal.returns
returns c = lists_end _ _ _ _ _ _ c.loop-k-test.false c.loop-k.auto.k-end c.loop-k.invariant
