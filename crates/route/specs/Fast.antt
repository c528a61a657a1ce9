-- Method: The route as the code computes it, over legs that are all maps: each leg by the fast mapping of crates/map_apply. proofs/FastLaws.antt
-- proves that the result is that of the definitions.
use Rattle.std.specs.Prelude.{◌≡◌, ℕ, zero, suc, ◌≤◌, Bool, true, false, List, [], ◌∷◌, ◌++◌, reverse, length, take, Result, Ok, Err, ⊤}
use Rattle.text.specs.Text.{Text}
use Rattle.path_parts.specs.Strip.{strip}
use Rattle.refusal.specs.Outcome.{Outcome, path, refused, after_checks}
use Rattle.path.specs.Calls.{path_new_call}
use Rattle.map_spec.specs.Map.{Map}
use Rattle.map_apply.specs.Fast.{map_fast, translate_fast}
use Rattle.validate.specs.Validate.{first_refusal}
use Rattle.route_spec.specs.Route.{fold_legs}
use Rattle.route_legs.specs.LentRoute.{LentRoute, map_at}
use Rattle.route_maps.specs.Prepared.{has_relocates}
use Rattle.refusal.specs.declared.Refusal.{Refusal}

-- One leg; in the direction out for a path without selections.
unfoldable pub leg_fast : Bool → Map → Text → Outcome
unfolding map_fast translate_fast
leg_fast false m p = translate_fast m p
leg_fast true m p = map_fast true m p

-- The maps of the first n legs.
unfoldable pub maps_in : LentRoute → ℕ → List Map
unfolding map_at
maps_in s zero = []
maps_in s (suc n) = maps_in s n ++ map_at s n ∷ []

-- The route over the first n legs in one direction.
unfoldable pub run_route_fast : Bool → LentRoute → ℕ → Text → Outcome
unfolding fold_legs leg_fast maps_in
run_route_fast false s n p = fold_legs (leg_fast false) (maps_in s n) p
run_route_fast true s n p = fold_legs (leg_fast true) (reverse (maps_in s n)) p

-- The path as the first leg receives it: on the way out, if there is a leg, without its selections.
unfoldable pub entering_path : Bool → ℕ → Text → Text
unfolding strip
entering_path false zero p = p
entering_path false (suc n) p = strip p
entering_path true n p = p

-- The first k bytes of the buffer are the text t of at most 255 bytes.
unfoldable pub HoldsPath : Text → ℕ → Text → Type 0
HoldsPath t k mem = (take k mem ≡ t) × (k ≤ 255)

-- The reply and the buffer hold the outcome of a route: the path at the beginning of the buffer, or the refusal.
unfoldable pub HoldsOutcome : Outcome → Result ℕ Refusal → Text → Type 0
HoldsOutcome (path q) r mem = (r ≡ Ok (length q)) × (take (length q) mem ≡ q)
HoldsOutcome (refused x) r mem = r ≡ Err x

-- Whether the legs' maps must be prepared: the route passed validation and has a relocate list.
unfoldable pub needs_maps : Result ⊤ Refusal → List ℕ → ℕ → Bool
unfolding has_relocates
needs_maps (Ok tt) legs n = has_relocates legs n
needs_maps (Err x) legs n = false

-- The outcome for a path over a route that was validated before, with the result `list`: only the path remains to be validated.
unfoldable pub after_route_validated : Result ⊤ Refusal → Bool → LentRoute → Text → ℕ → Outcome
unfolding first_refusal path_new_call after_checks run_route_fast entering_path
after_route_validated list home s p room = after_checks (first_refusal list (path_new_call p)) room (run_route_fast home s s.count (entering_path home s.count p))
