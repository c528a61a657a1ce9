-- Lemmas for the branches of `push_pair`: two texts appended after one test that both fit.
use mathlib.Core.Path.{◌≡◌, refl, ap, ◌∙◌}
use mathlib.Core.Bool.{true, false}
use mathlib.Core.List.{List, [], ◌∷◌, ◌++◌}
use Prim.Native.Nat.{ℕ, ◌+◌, ◌*◌, ◌≤◌, ◌<◌}
use native.Mathlib.Omega.{arith}
use lib.Dec.{leb}
use lib.ListN.{length}
use borrow.Author.Tests.{le-leb, lt-leb}
use Rattle.text.specs.Text.{Text, written, written_at, written_if_fits}
use Rattle.text.proofs.BoolLaws.{and_no}
use Rattle.text.proofs.WriteLaws.{over_length}
use Rattle.text_list.specs.Packed.{text_places}
use Rattle.text_list.proofs.PlaceBranches.{Pushed, push_there}
use Rattle.pair_list.specs.Pair.{pair}
use Rattle.pair_list.specs.Places.{key_at, pairs_in, pair_entry, list_text, list_places, end_bytes}
use Rattle.pair_list_write.specs.Packed.{AppendedPair, pair_fits, pair_end, pair_bytes, pair_slots}
use Rattle.pair_list_write.proofs.WriteBranches.{over_next, over_over, list_room, list_at, list_text_lem, list_slots}

module _ (s t : Text) (n at : ℕ) (bytes : Text) (slots : List ℕ) where
  abbrev pub PushedPair : ℕ → Text → List ℕ → Type 0
  PushedPair r bytes' slots' = (r ≡ pair_end s t n at bytes slots) × ((bytes' ≡ pair_bytes s t n at bytes slots) × (slots' ≡ pair_slots s t n at bytes slots))

  kept : pair_fits s t n at bytes slots ≡ false → PushedPair at bytes slots
  unfolding pair_end pair_bytes pair_slots
  kept e = rw e (refl, (refl, refl))

  pub pair_long : length bytes < at + (length s + length t) → PushedPair at bytes slots
  unfolding pair_fits
  pair_long h = kept (rw (lt-leb (at + (length s + length t)) (length bytes) h))

  pub pair_many : length slots < 4 * n + 4 → PushedPair at bytes slots
  unfolding pair_fits
  pair_many h = kept (rw (lt-leb (4 * n + 4) (length slots) h) (and_no (leb (at + (length s + length t)) (length bytes))))

  module _ (h : at + (length s + length t) ≤ length bytes) (g : 4 * n + 4 ≤ length slots) where
    fits : pair_fits s t n at bytes slots ≡ true
    unfolding pair_fits
    fits = rw (le-leb (at + (length s + length t)) (length bytes) h, le-leb (4 * n + 4) (length slots) g)

    pub pair_pushed : (m : ℕ) (b : Text) (p : List ℕ) → Pushed s (2 * n) at bytes slots m b p → (r : ℕ) (b' : Text) (p' : List ℕ) → Pushed t (2 * n + 1) m b p r b' p'
        → PushedPair r b' p'
    unfolding pair_end pair_bytes pair_slots text_places
    pair_pushed m b p w r b' p' v =
        let x = push_there s (2 * n) at bytes slots (omega arith) (omega arith) m b p w in
        let lb : length b ≡ length bytes = ap length x.1.0 ∙ over_length at s bytes (omega arith) in
        let lp : length p ≡ length slots = ap length x.1.1 ∙ over_length (2 * (2 * n)) (at ∷ length s ∷ []) slots (omega arith) in
        let y = push_there t (2 * n + 1) m b p (omega (arith, x.0)) (omega arith) r b' p' v in
        let z : 2 * (2 * n + 1) ≡ 2 * (2 * n) + 2 = omega arith in
        let q : 4 * n ≡ 2 * (2 * n) = omega arith in
        rw fits (
          omega (arith, x.0, y.0),
          (
            y.1.0 ∙ rw (x.0, x.1.0) (over_next at s t bytes h),
            y.1.1 ∙ rw (x.0, x.1.1, z, q) (over_next (2 * (2 * n)) (at ∷ length s ∷ []) ((at + length s) ∷ length t ∷ []) slots (omega arith)),
          ),
        )

    -- If the pair fits, it is appended.
    pub pair_there : (r : ℕ) (bytes' : Text) (slots' : List ℕ) → PushedPair r bytes' slots'
        → AppendedPair (pair s t) n at bytes slots r bytes' slots'
    unfolding pair_end pair_bytes pair_slots
    pair_there r bytes' slots' w = go (rw fits at w)
      where
        go : (r ≡ at + (length s + length t)) × ((bytes' ≡ written_at at (s ++ t) bytes) × (slots' ≡ written_at (4 * n) (pair_entry at s t) slots))
            → AppendedPair (pair s t) n at bytes slots r bytes' slots'
        go v = record { end = v.0; text = v.1.0; places = v.1.1 }

-- Two texts that were made in the buffer, one after the other, and the four place entries of their pair.
pub pair_done : (s t : Text) (at n k : ℕ) (out once twice : Text) (slots slots' : List ℕ) → at + (length s + length t) ≤ length out → 4 * n + 4 ≤ length slots
    → k ≡ length t → once ≡ written_if_fits at s out → twice ≡ written_if_fits (at + length s) t once → slots' ≡ written_if_fits (4 * n) (at ∷ length s ∷ (at + length s) ∷ k ∷ []) slots
    → AppendedPair (pair s t) n at out slots (at + length s + k) twice slots'
unfolding written_if_fits
pair_done s t at n k out once twice slots slots' h g e o w f = record {
  end = omega arith;
  text = w ∙ ap (λ (x : Text). written_if_fits (at + length s) t x) o ∙ over_over at s t out h;
  places = f ∙ rw (le-leb (4 * n + 4) (length slots) g, e) refl;
}

-- `append_list`: the list that was written after `start` bytes of the buffers o and p, and the pair that is pushed next.
module _ (store : Text) (places : List ℕ) (start : ℕ) (o : Text) (p : List ℕ) where
  abbrev pub Appended : ℕ → ℕ → Text → List ℕ → Type 0
  Appended i end out slots = (end ≡ start + end_bytes (pairs_in store places i))
      × ((out ≡ written_at start (list_text (pairs_in store places i)) o) × (slots ≡ written (list_places start (pairs_in store places i)) p))

  pub append_next : (n i at : ℕ) (out : Text) (slots : List ℕ) → i < n → start + end_bytes (pairs_in store places n) ≤ length o → length out ≡ length o → 4 * i + 4 ≤ length slots
      → Appended i at out slots → (s t : Text) → s ≡ key_at store places false i → t ≡ key_at store places true i
      → (r : ℕ) (out' : Text) (slots' : List ℕ) → PushedPair s t i at out slots r out' slots' → Appended (i + 1) r out' slots'
  append_next n i at out slots l f size g c s t es et r out' slots' w =
      let ks : Text = key_at store places false i in
      let kt : Text = key_at store places true i in
      let room : at + (length ks + length kt) ≤ length out = list_room store places start i at c.0 n l (length o) (length out) f size in
      let x = pair_there ks kt i at out slots room g r out' slots' (rw (es, et) at w) in (
        list_at store places start i at c.0 r x.end,
        (list_text_lem store places start i at c.0 n l o out out' f c.1.0 x.text, list_slots store places start i at c.0 p slots slots' c.1.1 x.places),
      )
