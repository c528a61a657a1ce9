-- Meaning: A route of legs, out and home, and the round-trip theorem about it (demand 3): "one claim about the whole list of legs, not one for each
-- leg".
use Rattle.std.specs.Prelude.{◌≡◌, ◌↔◌, Bool, true, false, ◌&&◌, List, [], ◌∷◌, reverse, ℕ, Some}
use Rattle.std.specs.List.{slice_get}
use Rattle.text.specs.Text.{Text}
use Rattle.pair_list.specs.Pair.{Pair, no_empty_source}
use Rattle.refusal.specs.Outcome.{Outcome, path, refused}
use Rattle.map_spec.specs.Leg.{SelectionFreePath, PlainRoundTrip}
use Rattle.relocates.specs.Status.{relocate_map}
use Rattle.route_spec.specs.Leg.{Leg, by_relocates, leg_map, leg_ends, outward, homeward}

-- Whether every end of every pair of every leg is a prim path, `/` or empty.
unfoldable pub route_ends : List Leg → Bool
unfolding leg_ends
route_ends [] = true
route_ends (x ∷ xs) = leg_ends x && route_ends xs

-- Passes the path that a leg yields to the remainder of the route; a refusal ends the route.
abbrev pub and_then : (Text → Outcome) → Outcome → Outcome
and_then next (path q) = next q
and_then next (refused x) = refused x

-- A path mapped over legs one after another: "leg after leg, the first given the starting path, each later one what the leg before gave".
unfoldable pub fold_legs : {A : Type 0} → (A → Text → Outcome) → List A → Text → Outcome
fold_legs go [] p = path p
fold_legs go (x ∷ xs) p = and_then (fold_legs go xs) (go x p)

-- Continues the trace with the path that a leg yields; a refusal ends the trace.
abbrev pub trace_from : (Text → List Text) → Outcome → List Text
trace_from next (path q) = next q
trace_from next (refused x) = []

-- The trace of a route: the path that reaches each leg, and the result of the last leg.
unfoldable pub trace : (Leg → Text → Outcome) → List Leg → Text → List Text
trace go [] p = p ∷ []
trace go (x ∷ xs) p = p ∷ trace_from (trace go xs) (go x p)

-- A route in one direction, home if the flag is set. Requirements: "Out: `translate_to_target` leg after leg .. Home:
-- `map_target_to_source` in reverse."
unfoldable pub run_route : Bool → List Leg → Text → Outcome
unfolding fold_legs
run_route false legs p = fold_legs outward legs p
run_route true legs p = fold_legs homeward (reverse legs) p

-- The first half of the round-trip property, for a tool that maps over a leg out by `goes` and home by `comes`: if every leg yields a path,
-- the legs in reverse order yield at each leg exactly the path that had reached it, and at the end the starting path.
abbrev pub HomeAgain : (Leg → Text → Outcome) → (Leg → Text → Outcome) → List Leg → Text → Type 0
HomeAgain goes comes legs p =
    (q : Text) → fold_legs goes legs p ≡ path q → (fold_legs comes (reverse legs) q ≡ path p) × (trace comes (reverse legs) q ≡ reverse (trace goes legs p))

-- The second half. Whether or not a later leg refuses: each leg reached whose map has no empty source yields a path exactly if plain mapping
-- through that map takes the path that reached it to a legal path of at most 255 bytes that maps plainly back to it; the leg then yields that
-- path.
abbrev pub GivesExactly : (Leg → Text → Outcome) → List Leg → Text → Type 0
GivesExactly goes legs p =
    (k : ℕ) (x : Leg) (r : Text) → slice_get legs k ≡ Some x → slice_get (trace goes legs p) k ≡ Some r
    → no_empty_source (leg_map x).pairs ≡ true → (q : Text) → (goes x r ≡ path q) ↔ PlainRoundTrip (leg_map x) r q

-- The round-trip property of a tool, for a list of legs and a path.
pub record Returns (goes comes : Leg → Text → Outcome) (legs : List Leg) (p : Text) : Type 0 where
  pub home_again : HomeAgain goes comes legs p
  pub exact : GivesExactly goes legs p

-- The tool has the property for every list of legs, maps and relocate lists in any order, and every legal path without variant selections.
abbrev pub AlwaysReturns : (Leg → Text → Outcome) → (Leg → Text → Outcome) → Type 0
AlwaysReturns goes comes = (legs : List Leg) (p : Text) → route_ends legs ≡ true → SelectionFreePath p → Returns goes comes legs p

-- The round-trip theorem (demand 3): the legs out and home as the requirements define them have the property. `fold_legs outward legs` and
-- `fold_legs homeward (reverse legs)` are the two directions of `run_route`.
abbrev pub RoundTrip : Type 0
RoundTrip = AlwaysReturns outward homeward

-- A relocate list's map never has an empty source, so for such a leg the second half holds without that condition.
abbrev pub RelocatesExact : Type 0
RelocatesExact =
    (legs : List Leg) (p : Text) → route_ends legs ≡ true → SelectionFreePath p
    → (k : ℕ) (l : List Pair) (r : Text) → slice_get legs k ≡ Some (by_relocates l) → slice_get (trace outward legs p) k ≡ Some r
    → (q : Text) → (outward (by_relocates l) r ≡ path q) ↔ PlainRoundTrip (relocate_map l) r q
