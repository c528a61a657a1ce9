-- The loop. The maps of the first k legs are prepared.
use Rattle.route_maps.specs.Prepare.{prepared_places, prepared_table}
use Rattle.route_legs.specs.LentRoute.{lent_route}
use lib.ListN.{length}
use mathlib.Core.Path.{◌≡◌}
use Rattle.route_maps.proofs.prepare_legs.Given as goal

abbrev pub invariant-loop-k : goal.invariant-loop-k
invariant-loop-k l = (length l.made ≡ 4096) × (length l.table ≡ 48) × (l.made ≡ prepared_places (lent_route l.store l.places l.legs l.n) l.k l.initial.made) × (l.table ≡ prepared_table (lent_route l.store l.places l.legs l.n) l.k l.initial.table)
