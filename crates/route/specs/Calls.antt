-- Meaning: The route calls: validation, then the route. Requirements: "On a route 6, 7 and 8 are put to each leg before the next one".
use Rattle.std.specs.Prelude.{ℕ, Bool, [], ◌∷◌}
use Rattle.text.specs.Text.{Text}
use Rattle.refusal.specs.Outcome.{Outcome, after_checks}
use Rattle.route_spec.specs.Route.{run_route}
use Rattle.route_legs.specs.LentRoute.{LentRoute, legs_in, validate_route}

-- The outcome of mapping a path out over a route, or home if `home` is set.
unfoldable pub route_call : Bool → LentRoute → Text → ℕ → Outcome
unfolding validate_route after_checks run_route legs_in
route_call home r p room = after_checks (validate_route r (p ∷ [])) room (run_route home (legs_in r r.count) p)
