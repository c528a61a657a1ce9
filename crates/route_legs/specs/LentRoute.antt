-- Meaning: A route as the caller lends it: one byte store and one slice of places for all legs, and three numbers for each leg: its kind (0 a map, 1
-- a map with the root-identity mark, any other number a relocate list), the index of its first pair in the places, and its number of pairs.
-- Only this file reads that layout; all other definitions are on `List Leg`.
use Rattle.std.specs.Prelude.{ℕ, zero, suc, ◌+◌, ◌*◌, ◌/◌, Bool, true, false, cond, ◌&&◌, List, [], ◌∷◌, ◌++◌, eqb, leb, length, get_or, drop, Result, Ok, Err, ⊤}
use Rattle.text.specs.Text.{Text}
use Rattle.pair_list.specs.Pair.{Pair}
use Rattle.refusal.specs.declared.Refusal.TheVariants.{TooMany}
use Rattle.refusal.specs.Refusal.{refused_or}
use Rattle.map_spec.specs.Map.{Map}
use Rattle.validate.specs.Validate.{LentList, lent_list, pairs_of, validate_call}
use Rattle.route_spec.specs.Leg.{Leg, by_map, by_relocates}
use Rattle.refusal.specs.declared.Refusal.{Refusal}

-- A lent route: the store, the places, the three numbers of each leg, and the number of legs.
pub record LentRoute : Type 0 where
  pub store : Text
  pub places : List ℕ
  pub legs : List ℕ
  pub count : ℕ

-- A lent route from its parts.
abbrev pub lent_route : Text → List ℕ → List ℕ → ℕ → LentRoute
lent_route store places legs n = record { store = store; places = places; legs = legs; count = n }

-- The kind of leg k.
abbrev pub kind_at : List ℕ → ℕ → ℕ
kind_at legs k = get_or legs (3 * k) 0

-- The index of leg k's first pair in the places.
abbrev pub first_at : List ℕ → ℕ → ℕ
first_at legs k = get_or legs (3 * k + 1) 0

-- The number of pairs of leg k.
abbrev pub size_at : List ℕ → ℕ → ℕ
size_at legs k = get_or legs (3 * k + 2) 0

-- The list of pairs of leg k.
unfoldable pub list_at : LentRoute → ℕ → LentList
list_at r k = lent_list r.store (drop (4 * first_at r.legs k) r.places) (size_at r.legs k)

-- The leg of the given kind and pairs.
unfoldable pub leg_of : ℕ → List Pair → Leg
leg_of zero l = by_map (record { pairs = l; mark = false })
leg_of (suc zero) l = by_map (record { pairs = l; mark = true })
leg_of (suc (suc k)) l = by_relocates l

-- Leg k of the route.
unfoldable pub leg_at : LentRoute → ℕ → Leg
unfolding leg_of list_at
leg_at r k = leg_of (kind_at r.legs k) (pairs_of (list_at r k))

-- Leg k read as a map, with the mark if its kind is 1. Where each relocate list has been replaced by the map that it stands for, every leg is
-- read like this.
unfoldable pub map_at : LentRoute → ℕ → Map
unfolding list_at
map_at r k = record { pairs = pairs_of (list_at r k); mark = eqb (kind_at r.legs k) 1 }

-- The first n legs, each read as a map.
unfoldable pub map_legs : LentRoute → ℕ → List Leg
unfolding map_at
map_legs r zero = []
map_legs r (suc n) = map_legs r n ++ by_map (map_at r n) ∷ []

-- The first n legs.
unfoldable pub legs_in : LentRoute → ℕ → List Leg
unfolding leg_at
legs_in r zero = []
legs_in r (suc n) = legs_in r n ++ leg_at r n ∷ []

-- The lists of the first n legs.
unfoldable pub lists_in : LentRoute → ℕ → List LentList
unfolding list_at
lists_in r zero = []
lists_in r (suc n) = lists_in r n ++ list_at r n ∷ []

-- The number of legs whose three numbers lie within the slice: questions 1 to 3 check the lists of these legs.
unfoldable pub present_legs : LentRoute → ℕ
present_legs r = cond (leb r.count (length r.legs / 3)) r.count (length r.legs / 3)

-- Question 4: "and the route at most 16 legs?" A count beyond its slice counts as over the limit.
unfoldable pub leg_count_within_limit : LentRoute → Bool
leg_count_within_limit r = leb r.count 16 && leb r.count (length r.legs / 3)

-- Questions 1 to 4 for a route and further texts.
unfoldable pub validate_route : LentRoute → List Text → Result ⊤ Refusal
unfolding validate_call lists_in present_legs leg_count_within_limit
validate_route r texts = refused_or (validate_call (lists_in r (present_legs r)) texts []) Err (cond (leg_count_within_limit r) (Ok tt) (Err TooMany))
