-- The loop. After k legs the path so far is what those legs make of the starting path, and the number is what they leave unaltered of it.
use Rattle.route.specs.Fast.{leg_fast, maps_in}
use Rattle.map_apply.specs.Fast.{plain_rest}
use Rattle.route_legs.specs.LentRoute.{lent_route}
use Rattle.route_spec.specs.Route.{fold_legs}
use Rattle.route_spec.specs.Rest.{unaltered_length}
use Rattle.refusal.specs.Outcome.{path}
use lib.ListN.{length, take}
use Prim.Native.Nat.{◌≤◌}
use mathlib.Core.Bool.{false}
use mathlib.Core.Path.{◌≡◌}
use Rattle.route.proofs.run_out.Given as goal

abbrev pub invariant-loop-k : goal.invariant-loop-k
invariant-loop-k l = (l.at ≤ 255) × (length l.here ≡ 255) × (fold_legs (leg_fast false) (maps_in (lent_route l.store l.places l.legs l.n) l.k) (take l.len l.initial.here) ≡ path (take l.at l.here))
    × (unaltered_length (leg_fast false) (plain_rest false) (maps_in (lent_route l.store l.places l.legs l.n) l.k) l.len (take l.len l.initial.here) ≡ l.unaltered)
