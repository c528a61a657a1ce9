-- Lemmas about the length of the result: every path that a route yields has at most 255 bytes.
use Rattle.std.specs.Prelude.{Result, ⊤}
use mathlib.Core.Path.{◌≡◌, refl}
use mathlib.Core.Bool.{Bool, true, false}
use mathlib.Core.List.{List, [], ◌∷◌, reverse}
use Prim.Native.Nat.{ℕ, zero, suc, ◌≤◌}
use native.Mathlib.Omega.{arith}
use lib.ListN.{length}
use borrow.Author.Tests.{leb-true}
use Rattle.text.specs.Text.{Text}
use Rattle.path_grammar.specs.Legal.{at_most255}
use Rattle.path_parts.proofs.StripLaws.{strip_shorter}
use Rattle.refusal.specs.Outcome.{Outcome, path, refused}
use Rattle.path.specs.Calls.{path_new_call}
use Rattle.validate.specs.Validate.{first_refusal}
use Rattle.map_spec.specs.Map.{map_target_to_source, translate_to_target}
use Rattle.map_spec.specs.Leg.{translate_checked, map_back_checked}
use Rattle.map_spec.proofs.OutcomeLaws.{checked_path}
use Rattle.mapping.proofs.CopyOutBranches.{Short, short_refused, short_answered}
use Rattle.mapping.proofs.DirectionLaws.{after_length}
use Rattle.route_spec.specs.Leg.{Leg, leg_map, outward, homeward}
use Rattle.route_spec.specs.Route.{and_then, fold_legs, run_route}
use Rattle.route_legs.specs.LentRoute.{LentRoute, legs_in, validate_route}
use Rattle.route_legs.proofs.RouteLaws.{route_short}
use Rattle.route.specs.Calls.{route_call}
use Rattle.route.specs.Fast.{leg_fast, maps_in, run_route_fast, entering_path, after_route_validated}
use Rattle.route.proofs.RunBranches.{short_leg}
use Rattle.refusal.specs.declared.Refusal.{Refusal}

short_fold : {A : Type 0} (go : A → Text → Outcome) → ((x : A) (p : Text) → Short (go x p)) → (xs : List A) (p : Text) → length p ≤ 255 → Short (fold_legs go xs p)
unfolding fold_legs
short_fold go s [] p h = λ q e. let z : p ≡ q = cc in rw (← z) h
short_fold go s (x ∷ xs) p h = by (go x p) (s x p) (short_fold go s xs)
  where
    by : (o : Outcome) → Short o → ((t : Text) → length t ≤ 255 → Short (fold_legs go xs t)) → Short (and_then (fold_legs go xs) o)
    by (path t) k ih = ih t (k t refl)
    by (refused n) k ih = short_refused n

-- For a route that was validated before.
short_over : (back : Bool) (s : LentRoute) (n : ℕ) (p : Text) → length p ≤ 255 → Short (run_route_fast back s n p)
unfolding run_route_fast
short_over false s n p = short_fold (leg_fast false) (short_leg false) (maps_in s n) p
short_over true s n p = short_fold (leg_fast true) (short_leg true) (reverse (maps_in s n)) p

enters_short : (back : Bool) (n : ℕ) (p : Text) → length p ≤ 255 → length (entering_path back n p) ≤ 255
unfolding entering_path
enters_short false zero p h = h
enters_short false (suc n) p h = omega (arith, strip_shorter p, h)
enters_short true n p h = h

pub short_after : (list : Result ⊤ Refusal) (back : Bool) (s : LentRoute) (p : Text) (room : ℕ) → Short (after_route_validated list back s p room)
unfolding after_route_validated
short_after list back s p room =
    short_answered (first_refusal list (path_new_call p)) room (run_route_fast back s s.count (entering_path back s.count p))
    (λ h. short_over back s s.count (entering_path back s.count p) (enters_short back s.count p (after_length list p (path_new_call p) (first_refusal list (path_new_call p)) refl refl h)))

-- For the call.
short_outward : (x : Leg) (p : Text) → Short (outward x p)
unfolding outward translate_checked at_most255
short_outward x p q e = leb-true (length q) 255 (checked_path (translate_to_target (leg_map x) p) q e).1

short_homeward : (x : Leg) (p : Text) → Short (homeward x p)
unfolding homeward map_back_checked at_most255
short_homeward x p q e = leb-true (length q) 255 (checked_path (map_target_to_source (leg_map x) p) q e).1

short_run : (back : Bool) (legs : List Leg) (p : Text) → length p ≤ 255 → Short (run_route back legs p)
unfolding run_route
short_run false legs p = short_fold outward short_outward legs p
short_run true legs p = short_fold homeward short_homeward (reverse legs) p

pub short_call : (back : Bool) (r : LentRoute) (p : Text) (room : ℕ) → Short (route_call back r p room)
unfolding route_call
short_call back r p room =
    short_answered (validate_route r (p ∷ [])) room (run_route back (legs_in r r.count) p) (λ h. short_run back (legs_in r r.count) p (route_short r p h))
