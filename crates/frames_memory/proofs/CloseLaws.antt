-- Lemmas about closing a leg: the buffers change as the state does.
use Rattle.std.specs.Prelude.{Result, Ok, Err, ⊤}
use mathlib.Core.Path.{◌≡◌, refl, sym, ap, subst}
use mathlib.Core.Bool.{Bool, true, false, cond, ◌&&◌}
use mathlib.Core.List.{[], ◌∷◌, map, map-append}
use Prim.Native.Nat.{ℕ, suc, ◌+◌, ◌*◌, ◌≤◌}
use native.Mathlib.Omega.{arith}
use lib.Dec.{leb}
use lib.ListN.{length, length-append}
use borrow.Author.Tests.{le-leb, lt-leb, leb-true, leb-false}
use Rattle.pair_list.specs.Pair.{all_ends, all_short}
use Rattle.pair_list.specs.Places.{list_text, list_places, end_bytes}
use Rattle.pair_list.proofs.ListLaws.{list_length, places_length}
use Rattle.refusal.specs.declared.Refusal.TheVariants.{TooMany, NoRoom}
use Rattle.map_function.proofs.NewBranches.{from_parts_bytes}
use Rattle.route_spec.specs.Leg.{Leg, leg_map, closed_leg, counted_pairs}
use Rattle.route_spec.proofs.Theorem.{map_ends}
use Rattle.route_spec.proofs.RelocateLaws.{closed_parts, closed_few, closed_short, closed_ends}
use Rattle.close_leg.specs.Close.{LegStore, store_has_leg_room, store_has_byte_room, validate_close, leg_entry, with_leg, closed_store, validate_close_of, close_store}
use Rattle.frames_spec.specs.State.{State, refuse, has_leg_room, has_byte_room, with_closed_leg, close_list, close_opened}
use Rattle.frames_memory.specs.Memory.{FramesMemory, open_list_of, leg_store_of, close_after, close_in}
use Rattle.frames_memory.specs.Represents.{LargeEnough, Represents, SameStep}
use Rattle.frames_memory.proofs.LegLaws.{Room, legs_more}
use Rattle.frames_memory.proofs.RouteLaws.{in_store_lem, legs_count}
use Rattle.frames_memory.proofs.ValidateLaws.{open_read, list_counts}
use Rattle.text.proofs.WriteLaws.{over_length}
use Rattle.refusal.specs.declared.Refusal.{Refusal}

-- The result of questions 4 and 5.
abbrev replied : Bool → Bool → Result ⊤ Refusal
replied leg bytes = cond leg (cond bytes (Ok tt) (Err NoRoom)) (Err TooMany)

module _ (m : FramesMemory) (st : State) (g : Represents m st) where
  abbrev k : ℕ
  k = m.kept.legs.count

  -- The buffers have space for 16 legs and 32,768 bytes, so the validation on them agrees with that of the protocol.
  leg_validated : store_has_leg_room (leg_store_of m) ≡ has_leg_room st
  leg_validated = go (has_leg_room st) refl
    where
      go : (a : Bool) → has_leg_room st ≡ a → (leb (suc k) 16 && leb (256 * suc k) (length m.slots) && leb (3 * suc k) (length m.table)) ≡ a
      go true h =
          let l : suc k ≤ 16 = omega (arith, legs_count m st g, leb-true (suc (length st.legs)) 16 h) in
          rw (le-leb (suc k) 16 l, le-leb (256 * suc k) (length m.slots) (omega (arith, g.large.slots)), le-leb (3 * suc k) (length m.table) (omega (arith, g.large.table))) refl
      go false h = rw (lt-leb (suc k) 16 (omega (arith, legs_count m st g, leb-false (suc (length st.legs)) 16 h))) refl

  bytes_validated : (n : ℕ) → store_has_byte_room (leg_store_of m) n ≡ has_byte_room st n
  bytes_validated n = go (has_byte_room st n) refl
    where
      go : (a : Bool) → has_byte_room st n ≡ a → (leb (m.kept.legs.bytes + n) 32768 && leb (m.kept.legs.bytes + n) (length m.store)) ≡ a
      go true h =
          let l : m.kept.legs.bytes + n ≤ 32768 = omega (arith, g.used, leb-true (st.used + n) 32768 h) in
          rw (le-leb (m.kept.legs.bytes + n) 32768 l, le-leb (m.kept.legs.bytes + n) (length m.store) (omega (arith, g.large.store))) refl
      go false h = rw (lt-leb (m.kept.legs.bytes + n) 32768 (omega (arith, g.used, leb-false (st.used + n) 32768 h))) refl

  -- Closing as a relocate leg if the flag is set, otherwise as a map leg.
  module _ (relocates : Bool) where
    abbrev x : Leg
    x = closed_leg relocates st.opened

    abbrev n : ℕ
    n = end_bytes (counted_pairs relocates st.opened)

    few : length (leg_map x).pairs ≤ 64
    few = omega (arith, closed_few relocates st.opened, g.within.pairs)

    ends : all_ends (leg_map x).pairs ≡ true
    ends = map_ends x (closed_ends relocates st.opened g.ends)

    short : all_short (leg_map x).pairs ≡ true
    short = closed_short relocates st.opened g.short

    size : end_bytes (leg_map x).pairs ≤ n
    size = rw (closed_parts relocates st.opened) (from_parts_bytes (counted_pairs relocates st.opened) relocates)

    close_validated : validate_close_of relocates (open_list_of m) (leg_store_of m) ≡ replied (has_leg_room st) (has_byte_room st n)
    unfolding validate_close_of validate_close
    close_validated = rw (list_counts m st g, open_read m st g, leg_validated, bytes_validated n) refl

    close_store_lem : close_store relocates (open_list_of m) (leg_store_of m) ≡ closed_store (replied (has_leg_room st) (has_byte_room st n)) (leg_store_of m) (leg_map x) n
    unfolding close_store
    close_store_lem = rw (close_validated, open_read m st g) refl

    module _ (h : has_leg_room st ≡ true) (i : has_byte_room st n ≡ true) where
      one_more : suc k ≤ 16
      one_more = omega (arith, legs_count m st g, leb-true (suc (length st.legs)) 16 h)

      bytes_more : m.kept.legs.bytes + n ≤ 32768
      bytes_more = omega (arith, g.used, leb-true (st.used + n) 32768 i)

      room : Room (leg_store_of m)
      room = record { store = in_store_lem m st g; slots = omega (arith, one_more, g.large.slots); table = omega (arith, one_more, g.large.table) }

      after : FramesMemory
      after = (close_after (Ok tt) m (with_leg (leg_store_of m) (leg_map x) n)).state

      still_large : LargeEnough after
      unfolding with_leg after
      still_large = record {
        bytes = g.large.bytes;
        places = g.large.places;
        store =
            rw (over_length m.kept.legs.bytes (list_text (leg_map x).pairs) m.store (omega (arith, list_length (leg_map x).pairs, size, bytes_more, g.large.store)))
            g.large.store;
        slots =
            rw (over_length (256 * k) (list_places m.kept.legs.bytes (leg_map x).pairs) m.slots (omega (arith, places_length m.kept.legs.bytes (leg_map x).pairs, few, one_more, g.large.slots)))
            g.large.slots;
        table = rw (over_length (3 * k) (leg_entry k (leg_map x)) m.table (omega (arith, one_more, g.large.table))) g.large.table;
      }

      holds_more : Represents after (with_closed_leg st x n).state
      unfolding after with_leg all_ends all_short list_text list_places end_bytes
      holds_more = record {
        opened = record { number = refl; end = refl; text = refl; places = refl };
        ends = refl;
        short = refl;
        legs =
            rw (map-append leg_map st.legs (x ∷ []))
            (legs_more (leg_store_of m) room (leg_map x) n few ends short size (map leg_map st.legs) g.legs);
        used = ap (λ (u : ℕ). u + n) g.used;
        outs = g.outs;
        within = record {
          pairs = omega arith;
          legs = rw (length-append st.legs (x ∷ [])) (omega (arith, leb-true (suc (length st.legs)) 16 h));
          bytes = leb-true (st.used + n) 32768 i;
          outs = g.within.outs;
        };
        large = still_large;
      }

    pub same_close : SameStep (close_in relocates m) (close_opened relocates st)
    unfolding close_in close_list closed_store after
    same_close =
        subst (λ (a : Result ⊤ Refusal). SameStep (close_after a m (close_store relocates (open_list_of m) (leg_store_of m))) (close_list st x n)) (sym close_validated)
        (subst (λ (v : LegStore). SameStep (close_after (replied (has_leg_room st) (has_byte_room st n)) m v) (close_list st x n)) (sym close_store_lem)
        (go (has_leg_room st) refl (has_byte_room st n) refl))
      where
        go : (a : Bool) → has_leg_room st ≡ a → (b : Bool) → has_byte_room st n ≡ b
            → SameStep (close_after (replied a b) m (closed_store (replied a b) (leg_store_of m) (leg_map x) n)) (cond a (cond b (with_closed_leg st x n) (refuse st NoRoom)) (refuse st TooMany))
        go true h true i = record { answers = refl; holds = holds_more h i }
        go true h false i = record { answers = refl; holds = g }
        go false h b i = record { answers = refl; holds = g }
