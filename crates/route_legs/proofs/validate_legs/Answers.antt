use Rattle.route_legs.proofs.ValidateBranches.{route_validated}
use Rattle.route_legs.proofs.validate_legs.Goals as goal

pub returns : goal.returns
returns c = route_validated _ _ _ _ _ _ _ _ c.present_legs.ensures c.validate_leg_lists-q.ensures c.validate_count.ensures c.first_refusal.ensures
