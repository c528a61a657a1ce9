-- Lemmas about the composed list in the buffers.
use mathlib.Core.Path.{◌≡◌, refl, ap}
use mathlib.Core.Bool.{true, false}
use mathlib.Core.List.{List}
use Prim.Native.Nat.{ℕ, ◌*◌, ◌≤◌}
use native.Mathlib.Omega.{arith}
use lib.ListN.{length}
use Rattle.text.specs.Text.{Text, written}
use Rattle.text_list.proofs.PackedLaws.{packed_over}
use Rattle.pair_list.specs.Pair.{Pair, ends_of}
use Rattle.pair_list.specs.Places.{list_text, list_places, end_bytes}
use Rattle.pair_list_write.specs.Packed.{PackedList, HoldsList}
use Rattle.pair_list_write.proofs.PackedLaws.{texts_packed, packed_texts, packed_holds}
use Rattle.map_spec.specs.Map.{Map}
use Rattle.map_spec.specs.Compose.{composed_pairs}
use Rattle.compose_pairs.specs.declared.Built.{Built}
use Rattle.compose_pairs.specs.ComposePairs.{compose_fits, composed_or_none, built_of}

-- The list k has at least as many pairs and bytes as l.
abbrev pub Longer : List Pair → List Pair → Type 0
Longer l k = (length l ≤ length k) × (end_bytes l ≤ end_bytes k)

-- A longer list written over a packed one.
pub packed_on : (l : List Pair) (n at : ℕ) (o : Text) (p : List ℕ) (bytes : Text) (slots : List ℕ) → PackedList l n at o p bytes slots
    → (k : List Pair) (n' at' : ℕ) (bytes' : Text) (slots' : List ℕ) → PackedList k n' at' bytes slots bytes' slots' → Longer l k
    → PackedList k n' at' o p bytes' slots'
packed_on l n at o p bytes slots c k n' at' bytes' slots' d h =
    texts_packed k n' at' o p bytes' slots'
    (packed_over (ends_of l) (2 * n) at o p bytes slots (packed_texts l n at o p bytes slots c) (ends_of k) (2 * n') at' bytes' slots'
    (packed_texts k n' at' bytes slots bytes' slots' d) (omega (arith, c.number, d.number, h.0)) (omega (arith, c.end, d.end, h.1)))

-- `compose_into`: the sizes of the list, and the list itself if the capacity suffices.
pub built_is : (b : Built) (l : List Pair) → b.n ≡ length l → b.at ≡ end_bytes l → b ≡ built_of l
built_is b l e f = rw (← e, ← f) refl

module _ (outer inner : Map) (bytes : Text) (slots : List ℕ) where
  abbrev built : List Pair
  built = composed_or_none outer inner (length bytes) (length slots)

  abbrev Left : Built → Text → List ℕ → Type 0
  Left r bytes' slots' = (r ≡ built_of built) × ((bytes' ≡ written (list_text built) bytes) × (slots' ≡ written (list_places 0 built) slots))

  pub into_none : compose_fits outer.pairs inner.pairs (length bytes) (length slots) ≡ false → Left (record { n = 0; at = 0 }) bytes slots
  unfolding composed_or_none list_text list_places end_bytes
  into_none e = rw e (refl, (refl, refl))

  module _ (e : compose_fits outer.pairs inner.pairs (length bytes) (length slots) ≡ true) (r : Built) (bytes' : Text) (slots' : List ℕ) where
    pub into_packed : PackedList (composed_pairs outer inner) r.n r.at bytes slots bytes' slots' → Left r bytes' slots'
    unfolding composed_or_none
    into_packed c = rw e (built_is r (composed_pairs outer inner) c.number c.end, (c.text, c.places))

    -- The buffers begin with the composed list.
    pub into_holds : Left r bytes' slots' → HoldsList (composed_pairs outer inner) r.n r.at bytes' slots'
    unfolding composed_or_none
    into_holds w = go (rw e at w)
      where
        go : (r ≡ built_of (composed_pairs outer inner)) × ((bytes' ≡ written (list_text (composed_pairs outer inner)) bytes) × (slots' ≡ written (list_places 0 (composed_pairs outer inner)) slots))
            → HoldsList (composed_pairs outer inner) r.n r.at bytes' slots'
        go v = packed_holds (composed_pairs outer inner) r.n r.at bytes slots bytes' slots' record {
          number = ap (λ (b : Built). b.n) v.0;
          end = ap (λ (b : Built). b.at) v.0;
          text = v.1.0;
          places = v.1.1;
        }
