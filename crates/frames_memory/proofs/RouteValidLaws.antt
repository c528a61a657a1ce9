-- Lemmas about the legs in the buffers: as a lent route they pass questions 1 to 4.
use Rattle.std.specs.Prelude.{Ok}
use mathlib.Core.Path.{◌≡◌, refl, ap, ◌∙◌}
use mathlib.Core.List.{[], ◌∷◌, map}
use Prim.Native.Nat.{ℕ, zero, suc, ◌+◌, ◌-◌, ◌*◌, ◌/◌, ◌≤◌, ◌<◌}
use native.Mathlib.Omega.{arith}
use lib.ListN.{length, get_or, drop, length-drop}
use borrow.Author.Tests.{le-leb}
use Rattle.validate.specs.Validate.{validate_call, first_refusal, first_failed, every}
use Rattle.validate.proofs.RefusalLaws.{list_more}
use Rattle.map_spec.specs.Map.{Map}
use Rattle.map_spec.specs.New.{null_map}
use Rattle.route_spec.specs.Leg.{leg_map}
use Rattle.route_legs.specs.LentRoute.{list_at, lists_in, present_legs, leg_count_within_limit, validate_route}
use Rattle.frames_spec.specs.State.{State}
use Rattle.frames_memory.specs.Memory.{FramesMemory, leg_store_of, route_of}
use Rattle.frames_memory.specs.Represents.{HoldsLeg, Represents}
use Rattle.frames_memory.proofs.StoredLaws.{read_standing, first_is, size_is}
use Rattle.frames_memory.proofs.RouteLaws.{in_store_lem, legs_count}
use Rattle.frames_memory.proofs.ValidateLaws.{HoldsValidated, holds_passes}

module _ (m : FramesMemory) (st : State) (g : Represents m st) where
  abbrev n : ℕ
  n = m.kept.legs.count

  few_legs : n ≤ 16
  few_legs = omega (arith, legs_count m st g, g.within.legs)

  -- The list of leg k, whose map is x.
  module _ (k : ℕ) (l : k < n) (x : Map) (h : HoldsLeg (leg_store_of m) k x) where
    leg_holds : HoldsValidated (list_at (route_of m) k) x.pairs
    unfolding list_at
    leg_holds =
        let first : 4 * get_or m.table (3 * k + 1) 0 ≡ 256 * k = omega (arith, first_is (leg_store_of m) k x h (in_store_lem m st g)) in
        let size = size_is (leg_store_of m) k x h (in_store_lem m st g) in
        let d : length (drop (256 * k) m.slots) ≡ length m.slots - 256 * k = length-drop (256 * k) m.slots in
        rw (first, size)
        (record {
          counts = refl;
          few = h.few;
          held = omega (arith, h.few, few_legs, g.large.slots);
          reads = read_standing x.pairs m.store m.slots h.at (256 * k) (omega (arith, h.inside, in_store_lem m st g)) h.text h.places;
          ends = h.ends;
          short = h.short;
          at = h.at;
          inside = omega (arith, h.inside, in_store_lem m st g);
          numbers = h.places;
        })

    leg_passes : validate_call (list_at (route_of m) k ∷ []) [] [] ≡ Ok tt
    leg_passes = holds_passes (list_at (route_of m) k) x.pairs leg_holds

  lists_pass : (k : ℕ) → k ≤ n → validate_call (lists_in (route_of m) k) [] [] ≡ Ok tt
  unfolding lists_in first_refusal validate_call every first_failed
  lists_pass zero l = refl
  lists_pass (suc k) l =
      let i : k < length (map leg_map st.legs) = omega (arith, g.legs.count) in
      let x : Map = get_or (map leg_map st.legs) k null_map in
      list_more (lists_in (route_of m) k) (list_at (route_of m) k)
      ∙ ap (λ a. first_refusal a (validate_call (list_at (route_of m) k ∷ []) [] [])) (lists_pass k (omega arith))
      ∙ leg_passes k l x (g.legs.each k i)

  pub legs_pass : validate_route (route_of m) [] ≡ Ok tt
  unfolding validate_route present_legs leg_count_within_limit
  legs_pass =
      let h : n ≤ length m.table / 3 = omega (arith, few_legs, g.large.table) in
      rw (le-leb n (length m.table / 3) h, le-leb n 16 few_legs, lists_pass n (omega arith)) refl
