use Rattle.route_legs.proofs.ValidateBranches.{places_gone, places_from}
use Rattle.route_legs.proofs.leg_places.Goals as goal

pub returns-then-places-first : goal.returns-then-places-first
returns-then-places-first c = places_gone _ _ _ c.entry_at-first.ensures c.if-places-first.true

pub returns : goal.returns
returns c = places_from c.args.places.now _ _ c.entry_at-first.ensures
