use mathlib.Core.Path.{refl}
use Rattle.route_maps.proofs.ReadLaws.{prepared_read}
use Rattle.route.proofs.CallBranches.{returns_as_it_is, returns_prepared}
use borrow.Author.Rules.{rules}
use mathlib.Core.Path.{ap}
use mathlib.Core.Bool.{not}
use Rattle.route.proofs.route_call.Goals as goal

pub returns-then-not-needs_maps : goal.returns-then-not-needs_maps
returns-then-not-needs_maps c =
    returns_as_it_is _ _ _ _ _ c.validate_legs-list.ensures _ c.needs_maps.ensures (ap not c.if-not-needs_maps.true) _ _ _
    c.route_after_carried.ensures

pub returns : goal.returns
returns c =
    returns_prepared _ _ _ _ _ c.validate_legs-list.ensures _ refl (search rules) (search rules)
    (prepared_read _ _ _ _ _ c.prepare_legs.ensures.made_after c.prepare_legs.ensures.table_after) _ _ _
    c.route_after_carried-2.ensures
