-- Method: A route in which every leg is a map, as the code processes it, and when such a route is equivalent to a route that also has relocate
-- lists.
use Rattle.std.specs.Prelude.{◌≡◌, ℕ, ◌<◌, Bool, List, [], leb, length, Ok}
use Rattle.relocates.specs.Status.{any_below}
use Rattle.route_spec.specs.Leg.{leg_map}
use Rattle.route_legs.specs.LentRoute.{LentRoute, kind_at, leg_at, map_at, validate_route}

-- Whether one of the first n legs is a relocate list.
unfoldable pub has_relocates : List ℕ → ℕ → Bool
unfolding any_below
has_relocates legs n = any_below n (λ (k : ℕ). leb 2 (kind_at legs k))

-- The first n maps of `s` are the maps of the legs of `r`.
unfoldable pub Prepared : LentRoute → LentRoute → ℕ → Type 0
unfolding map_at leg_at leg_map
Prepared r s n = (k : ℕ) → k < n → map_at s k ≡ leg_map (leg_at r k)

-- The same, provided that the route `r` passed validation and the buffers have their size: 256 entries for the pairs of each leg, three
-- numbers for the leg (proofs/ReadLaws.antt proves that `prepare_legs` establishes this).
unfoldable pub PreparedIfPassed : LentRoute → LentRoute → ℕ → Type 0
unfolding Prepared validate_route
PreparedIfPassed r s n = validate_route r [] ≡ Ok tt → length s.places ≡ 4096 → length s.legs ≡ 48 → Prepared r s n
