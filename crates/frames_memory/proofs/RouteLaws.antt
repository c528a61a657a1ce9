-- Lemmas about a path over the legs in the buffers: the result is that of the protocol.
use Rattle.std.specs.Prelude.{Result, Ok, Err, ⊤}
use mathlib.Core.Path.{◌≡◌, refl, sym, ◌∙◌}
use mathlib.Core.Bool.{Bool}
use mathlib.Core.List.{map}
use Prim.Native.Nat.{◌≤◌}
use native.Mathlib.Omega.{arith}
use lib.ListN.{length, length-map}
use Rattle.text.specs.Text.{Text}
use Rattle.refusal.specs.Outcome.{refused, require_room, after_checks}
use Rattle.refusal.specs.Refusal.{refused_or}
use Rattle.path.specs.Calls.{path_new_call}
use Rattle.validate.specs.Validate.{first_refusal}
use Rattle.route_spec.specs.Leg.{leg_map}
use Rattle.route_spec.specs.Route.{run_route}
use Rattle.route.specs.Fast.{run_route_fast, entering_path, after_route_validated}
use Rattle.route.proofs.FastLaws.{run_maps}
use Rattle.frames_spec.specs.State.{State, route_path}
use Rattle.frames_spec.proofs.RunLaws.{passed_whole}
use Rattle.frames_memory.specs.Memory.{FramesMemory, leg_store_of, route_of, route_path_in}
use Rattle.frames_memory.specs.Represents.{Represents}
use Rattle.frames_memory.proofs.StoredLaws.{maps_read, maps_sound}
use Rattle.refusal.specs.declared.Refusal.{Refusal}

module _ (m : FramesMemory) (st : State) (g : Represents m st) where
  pub in_store_lem : m.kept.legs.bytes ≤ length m.store
  in_store_lem = omega (arith, g.used, g.within.bytes, g.large.store)

  pub legs_count : m.kept.legs.count ≡ length st.legs
  legs_count = g.legs.count ∙ length-map st.legs leg_map

  same_route : (back : Bool) (p : Text) → path_new_call p ≡ Ok tt
      → run_route back st.legs p ≡ run_route_fast back (route_of m) m.kept.legs.count (entering_path back m.kept.legs.count p)
  same_route back p h =
      let w = passed_whole p h in
      run_maps (route_of m) back m.kept.legs.count st.legs (sym legs_count) (maps_read (map leg_map st.legs) (leg_store_of m) g.legs in_store_lem)
      (maps_sound (map leg_map st.legs) (leg_store_of m) g.legs in_store_lem) p (record { is_legal = w.1; is_short = w.0 })

  pub same_routes : (back : Bool) (p : Text) → route_path_in back m p ≡ route_path back st p
  unfolding route_path_in route_path after_route_validated first_refusal after_checks require_room
  same_routes back p = go (path_new_call p) refl
    where
      go : (a : Result ⊤ Refusal) → path_new_call p ≡ a
          → after_checks (first_refusal (Ok tt) a) 255 (run_route_fast back (route_of m) m.kept.legs.count (entering_path back m.kept.legs.count p))
          ≡ refused_or a refused (run_route back st.legs p)
      go (Ok tt) h = sym (same_route back p h)
      go (Err x) h = refl
