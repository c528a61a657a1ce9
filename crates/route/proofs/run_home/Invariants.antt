-- The loop. The legs before k, in reverse from the path so far, make the result of the whole route, and leave unaltered what it leaves.
use Rattle.route.specs.Fast.{leg_fast, maps_in, run_route_fast}
use Rattle.route.specs.Unaltered.{unaltered_fast}
use Rattle.map_apply.specs.Fast.{plain_rest}
use Rattle.route_legs.specs.LentRoute.{lent_route}
use Rattle.route_spec.specs.Route.{fold_legs}
use Rattle.route_spec.specs.Rest.{unaltered_length}
use lib.ListN.{length, take}
use Prim.Native.Nat.{◌≤◌}
use mathlib.Core.List.{reverse}
use mathlib.Core.Bool.{true}
use mathlib.Core.Path.{◌≡◌}
use Rattle.route.proofs.run_home.Given as goal

abbrev pub invariant-loop-k : goal.invariant-loop-k
invariant-loop-k l = let s = lent_route l.store l.places l.legs l.n in
    (l.at ≤ 255) × (length l.here ≡ 255) × (fold_legs (leg_fast true) (reverse (maps_in s l.k)) (take l.at l.here) ≡ run_route_fast true s l.n (take l.len l.initial.here))
    × (unaltered_length (leg_fast true) (plain_rest true) (reverse (maps_in s l.k)) l.unaltered (take l.at l.here) ≡ unaltered_fast true s l.n l.len (take l.len l.initial.here))
