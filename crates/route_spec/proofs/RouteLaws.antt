-- Lemmas about a route with one more leg.
use mathlib.Core.Path.{◌≡◌}
use mathlib.Core.Bool.{true}
use mathlib.Core.List.{List, [], ◌∷◌, ◌++◌}
use Rattle.text.proofs.BoolLaws.{and_l, and_r}
use Rattle.route_spec.specs.Leg.{Leg, leg_ends}
use Rattle.route_spec.specs.Route.{route_ends}

pub legs_more : (xs : List Leg) (x : Leg) → route_ends xs ≡ true → leg_ends x ≡ true → route_ends (xs ++ x ∷ []) ≡ true
unfolding route_ends
legs_more [] x e h = rw h
legs_more (y ∷ xs) x e h = rw (and_l (leg_ends y) (route_ends xs) e) (legs_more xs x (and_r (leg_ends y) (route_ends xs) e) h)
