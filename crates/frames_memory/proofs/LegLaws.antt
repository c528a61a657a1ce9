-- Lemmas about the leg store with one more leg: it holds the legs that it held, and the new one.
use mathlib.Core.Path.{◌≡◌, sym, ap, ◌∙◌, subst}
use mathlib.Core.Bool.{true}
use mathlib.Core.List.{List, [], ◌∷◌, ◌++◌}
use Prim.Native.Nat.{ℕ, ◌+◌, ◌*◌, ◌≤◌, ◌<◌}
use native.Mathlib.Omega.{arith}
use native.Mathlib.Decide.{ℕ_discrete}
use lib.ListN.{length, get_or, length-append, get_or-append}
use lib.Seq.{get_or-append_seam}
use Rattle.pair_list.specs.Pair.{all_ends, all_short}
use Rattle.pair_list.specs.Places.{list_text, list_places, end_bytes}
use Rattle.pair_list.proofs.ListLaws.{list_length, places_length}
use Rattle.map_spec.specs.Map.{Map}
use Rattle.map_spec.specs.New.{null_map}
use Rattle.close_leg.specs.Close.{LegStore, leg_entry, with_leg}
use Rattle.frames_memory.specs.Represents.{HoldsLeg, HoldsLegs}
use Rattle.frames_memory.proofs.PieceLaws.{stored_still, stored_written}

-- There is space after the legs.
pub record Room (v : LegStore) : Type 0 where
  pub store : v.legs.bytes ≤ length v.store
  pub slots : 256 * v.legs.count ≤ length v.slots
  pub table : 3 * v.legs.count ≤ length v.table

module _ (v : LegStore) (r : Room v) (y : Map) (n : ℕ) where
  leg_still : (k : ℕ) (x : Map) → k < v.legs.count → HoldsLeg v k x → HoldsLeg (with_leg v y n) k x
  unfolding with_leg
  leg_still k x l h = record {
    few = h.few;
    ends = h.ends;
    short = h.short;
    at = h.at;
    inside = omega (arith, h.inside);
    text = stored_still v.store (list_text x.pairs) (list_text y.pairs) h.at v.legs.bytes (omega (arith, h.inside, list_length x.pairs)) r.store h.text;
    places = stored_still v.slots (list_places h.at x.pairs) (list_places v.legs.bytes y.pairs) (256 * k) (256 * v.legs.count) (omega (arith, h.few, places_length h.at x.pairs)) r.slots h.places;
    numbers = stored_still v.table (leg_entry k x) (leg_entry v.legs.count y) (3 * k) (3 * v.legs.count) (omega arith) r.table h.numbers;
  }

  module _ (few : length y.pairs ≤ 64) (ends : all_ends y.pairs ≡ true) (short : all_short y.pairs ≡ true) (size : end_bytes y.pairs ≤ n) where
    leg_new : HoldsLeg (with_leg v y n) v.legs.count y
    unfolding with_leg
    leg_new = record {
      few = few;
      ends = ends;
      short = short;
      at = v.legs.bytes;
      inside = omega (arith, size);
      text = stored_written v.store (list_text y.pairs) v.legs.bytes r.store;
      places = stored_written v.slots (list_places v.legs.bytes y.pairs) (256 * v.legs.count) r.slots;
      numbers = stored_written v.table (leg_entry v.legs.count y) (3 * v.legs.count) r.table;
    }

    pub legs_more : (xs : List Map) → HoldsLegs xs v → HoldsLegs (xs ++ y ∷ []) (with_leg v y n)
    unfolding with_leg
    legs_more xs h = record {
      count = ap (λ (k : ℕ). k + 1) h.count ∙ sym (length-append xs (y ∷ []));
      each = λ k l. one k (rw (length-append xs (y ∷ [])) at l);
    }
      where
        last : HoldsLeg (with_leg v y n) (length xs) (get_or (xs ++ y ∷ []) (length xs) null_map)
        last = rw (get_or-append_seam xs y [] null_map) (subst (λ (k : ℕ). HoldsLeg (with_leg v y n) k y) h.count leg_new)

        earlier : (k : ℕ) → k < length xs → HoldsLeg (with_leg v y n) k (get_or (xs ++ y ∷ []) k null_map)
        earlier k i = rw (get_or-append xs (y ∷ []) null_map k i) (leg_still k (get_or xs k null_map) (omega (arith, h.count)) (h.each k i))

        one : (k : ℕ) → k < length xs + 1 → HoldsLeg (with_leg v y n) k (get_or (xs ++ y ∷ []) k null_map)
        one k l =
            elim (ℕ_discrete k (length xs)) [ yes e ↦ subst (λ (j : ℕ). HoldsLeg (with_leg v y n) j (get_or (xs ++ y ∷ []) j null_map)) (sym e) last | no d ↦ earlier k (omega arith) ]
