-- A counterexample: the second half of the round-trip requirement (demand 3) needs its hypothesis; without it, it fails for a route of one
-- leg.
use Rattle.std.specs.Prelude.{Some}
use mathlib.Core.Path.{◌≡◌, refl}
use mathlib.Core.Logic.{◌↔◌}
use mathlib.Core.Bool.{true}
use mathlib.Core.List.{List, [], ◌∷◌}
use Prim.Native.Nat.{ℕ}
use Rattle.std.specs.List.{slice_get}
use Rattle.text.specs.Text.{Text}
use Rattle.pair_list.specs.Pair.{all_ends}
use Rattle.refusal.specs.Outcome.{path}
use Rattle.map_spec.specs.Map.{Map}
use Rattle.map_spec.specs.Leg.{translate_checked, SelectionFreePath, PlainRoundTrip}
use Rattle.map_spec.proofs.Necessary.{full_needed}
use Rattle.route_spec.specs.Leg.{Leg, by_map, leg_map, leg_ends, outward}
use Rattle.route_spec.specs.Route.{route_ends, trace}

-- The second half without the condition that the leg's map has no empty source.
abbrev Unguarded : Type 0
Unguarded =
    (legs : List Leg) (p : Text) → route_ends legs ≡ true → SelectionFreePath p
    → (k : ℕ) (x : Leg) (r : Text) → slice_get legs k ≡ Some x → slice_get (trace outward legs p) k ≡ Some r
    → (q : Text) → (outward x r ≡ path q) ↔ PlainRoundTrip (leg_map x) r q

one_leg : (m : Map) → all_ends m.pairs ≡ true → route_ends (by_map m ∷ []) ≡ true
unfolding route_ends leg_ends
one_leg m e = rw e

reaches : (m : Map) (p : Text) → slice_get (trace outward (by_map m ∷ []) p) 0 ≡ Some p
unfolding trace
reaches m p = refl

comes : (m : Map) (p q : Text) → PlainRoundTrip m p q → Unguarded → all_ends m.pairs ≡ true → SelectionFreePath p → translate_checked m p ≡ path q
unfolding outward leg_map
comes m p q o f e c = (f (by_map m ∷ []) p (one_leg m e) c 0 (by_map m) p refl (reaches m p) q).1 o

pub guard_needed : Unguarded → ⊥
guard_needed f = full_needed (λ m e p q c o. comes m p q o f e c)
