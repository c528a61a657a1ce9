-- The loop. The result so far is that of the lists of the first k legs.
use mathlib.Core.Path.{◌≡◌}
use mathlib.Core.List.{[]}
use Rattle.validate.specs.Validate.{validate_call}
use Rattle.route_legs.specs.LentRoute.{lent_route, lists_in}
use Rattle.route_legs.proofs.validate_leg_lists.Given as goal

abbrev pub invariant-loop-k : goal.invariant-loop-k
invariant-loop-k l = l.q ≡ validate_call (lists_in (lent_route l.store l.places l.legs l.n) l.k) [] []
