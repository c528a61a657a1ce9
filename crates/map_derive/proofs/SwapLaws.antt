-- Lemmas about the numbers that `swap_ends` writes, and the pairs they stand for.
use mathlib.Core.Path.{◌≡◌, refl, sym, ap, ◌∙◌, subst}
use mathlib.Core.List.{List, [], ◌∷◌, ◌++◌, append_assoc, map as mapped, map-append}
use Prim.Native.Nat.{ℕ, zero, suc, ◌+◌, ◌*◌, ◌≤◌, ◌<◌}
use native.Mathlib.Omega.{arith}
use native.Mathlib.Numerals.{add-one}
use lib.Dec.{leb}
use lib.ListN.{length, get_or, drop, length-append}
use lib.Seq.{get_or-append-add}
use borrow.Author.Tests.{le-leb, lt-leb}
use Rattle.text.specs.Text.{Text, written, written_if_fits}
use Rattle.text.proofs.BoolLaws.{and_no}
use Rattle.text.proofs.WriteLaws.{placed_next}
use Rattle.pair_list.specs.Pair.{Pair}
use Rattle.pair_list.specs.Places.{pair_in, pairs_in}
use Rattle.pair_list_write.proofs.CopyLaws.{text_same}
use Rattle.map_spec.specs.Derive.{swapped_pair}
use Rattle.map_derive.specs.SwapEnds.{swapped_entry, swapped_entries, swap_ends}

module _ (places : List ℕ) where
  swapped_length : (n : ℕ) → length (swapped_entries places n) ≡ 4 * n
  unfolding swapped_entries
  swapped_length zero = refl
  swapped_length (suc n) = omega (arith, length-append (swapped_entries places n) (swapped_entry places n), swapped_length n)

  -- Lemmas for `swap_ends`.
  module _ (other : List ℕ) where
    pub swap_beyond : (n : ℕ) → length places < 4 * n → other ≡ swap_ends places n other
    unfolding swap_ends
    swap_beyond n h = rw (lt-leb (4 * n) (length places) h)

    pub swap_room : (n : ℕ) → length other < 4 * n → other ≡ swap_ends places n other
    unfolding swap_ends
    swap_room n h = rw (lt-leb (4 * n) (length other) h, and_no (leb (4 * n) (length places)))

    pub swap_none : other ≡ written (swapped_entries places 0) other
    unfolding swapped_entries
    swap_none = refl

    module _ (i : ℕ) (now : List ℕ) (e : now ≡ written (swapped_entries places i) other) where
      pub swap_on : 4 * i + 4 ≤ length other → (next : List ℕ) → next ≡ written_if_fits (4 * i) (swapped_entry places i) now → next ≡ written (swapped_entries places (i + 1)) other
      unfolding swapped_entries
      swap_on h next f =
          f
          ∙ rw (e, add-one i)
          (ap (λ (k : ℕ). written_if_fits k (swapped_entry places i) (written (swapped_entries places i) other)) (sym (swapped_length i))
          ∙ placed_next (swapped_entries places i) (swapped_entry places i) other (omega (arith, swapped_length i)))

      pub swap_end : (n : ℕ) → 4 * n ≤ length places → 4 * n ≤ length other → n ≤ i → i ≤ n → now ≡ swap_ends places n other
      unfolding swap_ends
      swap_end n h g k l =
          let z : i ≡ n = omega arith in
          rw (le-leb (4 * n) (length places) h, le-leb (4 * n) (length other) g) (rw z at e)

  -- If both slices have the pairs, the exchanged pairs are read back.
  module _ (store : Text) where
    swapped_at : (i : ℕ) (rest : List ℕ) (j k : ℕ) → j ≡ 4 * i + k → get_or (swapped_entries places i ++ rest) j 0 ≡ get_or rest k 0
    swapped_at i rest j k e = rw (e, ← (swapped_length i)) (get_or-append-add (swapped_entries places i) rest k 0)

    swapped_pair_lem : (i : ℕ) (rest : List ℕ) → pair_in store (swapped_entries places i ++ (swapped_entry places i ++ rest)) i ≡ swapped_pair (pair_in store places i)
    unfolding pair_in
    swapped_pair_lem i rest =
        let a : 2 * (2 * i + 1) ≡ 4 * i + 2 = omega arith in
        let b : 2 * (2 * i + 1) + 1 ≡ 4 * i + 3 = omega arith in
        let c : 2 * (2 * i) ≡ 4 * i = omega arith in
        let at : (j k : ℕ) → j ≡ 4 * i + k → get_or (swapped_entries places i ++ (swapped_entry places i ++ rest)) j 0 ≡ get_or (swapped_entry places i ++ rest) k 0
        = swapped_at i (swapped_entry places i ++ rest) in
        rw (
          text_same store (swapped_entries places i ++ (swapped_entry places i ++ rest)) places (2 * i) (2 * i + 1) (rw a (at (2 * (2 * i)) 0 (omega arith))) (rw b (at (2 * (2 * i) + 1) 1 (omega arith))),
          text_same store (swapped_entries places i ++ (swapped_entry places i ++ rest)) places (2 * i + 1) (2 * i) (rw c (at (2 * (2 * i + 1)) 2 (omega arith))) (rw c (at (2 * (2 * i + 1) + 1) 3 (omega arith))),
        ) refl

    turned_list : (n : ℕ) (rest : List ℕ) → pairs_in store (swapped_entries places n ++ rest) n ≡ mapped (λ (x : Pair). swapped_pair x) (pairs_in store places n)
    unfolding pairs_in swapped_entries
    turned_list zero rest = refl
    turned_list (suc n) rest =
        let Turned : List ℕ → Type 0
        = λ l. pairs_in store l (suc n) ≡ mapped (λ (x : Pair). swapped_pair x) (pairs_in store places (suc n)) in
        subst Turned (sym (append_assoc (swapped_entries places n) (swapped_entry places n) rest))
        (rw (turned_list n (swapped_entry places n ++ rest), swapped_pair_lem n rest)
        (sym (map-append (λ (x : Pair). swapped_pair x) (pairs_in store places n) (pair_in store places n ∷ []))))

    pub swapped_list : (n : ℕ) (other other' : List ℕ) → other' ≡ swap_ends places n other → 4 * n ≤ length places → 4 * n ≤ length other
        → pairs_in store other' n ≡ mapped (λ (x : Pair). swapped_pair x) (pairs_in store places n)
    unfolding swap_ends
    swapped_list n other other' e h g =
        rw (e, le-leb (4 * n) (length places) h, le-leb (4 * n) (length other) g) (turned_list n (drop (length (swapped_entries places n)) other))
