use Rattle.route_legs.proofs.ValidateBranches.{leg_validated}
use Rattle.route_legs.proofs.validate_leg.Goals as goal

pub returns : goal.returns
returns c = leg_validated _ _ _ _ _ _ _ c.leg_places.ensures c.size_at.ensures c.validate_list.ensures
