-- Lemmas about a list of validated pairs in the buffers: it passes questions 1 to 4; and about the open list.
use Rattle.std.specs.Prelude.{Ok}
use mathlib.Core.Path.{◌≡◌, refl, sym, ap, ◌∙◌}
use mathlib.Core.Bool.{Bool, true, ◌&&◌}
use mathlib.Core.List.{List, [], ◌∷◌, ◌++◌}
use Prim.Native.Nat.{ℕ, zero, suc, ◌+◌, ◌*◌, ◌/◌, ◌≤◌, ◌<◌}
use native.Mathlib.Omega.{arith}
use lib.Dec.{leb}
use lib.ListN.{length, get_or, take, drop}
use lib.Seq.{take-append_seam}
use borrow.Author.Tests.{le-leb}
use Rattle.text.specs.Text.{Text}
use Rattle.text.proofs.BoolLaws.{or_right}
use Rattle.path_grammar.specs.Legal.{legal, is_end}
use Rattle.path_grammar.proofs.LegalLaws.{end_legal}
use Rattle.pair_list.specs.Pair.{Pair, source_at, target_at, all_ends, all_short}
use Rattle.text_list.specs.Places.{start_at, length_at, in_store, text_at}
use Rattle.pair_list.specs.Places.{list_places, pair_entry, end_bytes, is_short_at, places_short, places_all}
use Rattle.pair_list.proofs.PlaceLaws.{pairs_in_source, pairs_in_target, short_at}
use Rattle.validate.specs.Validate.{LentList, pairs_of, present_places, list_short, list_all, count_within_limit, every, first_failed, validate_call}
use Rattle.open_list.proofs.OpenListLaws.{opened}
use Rattle.frames_spec.specs.State.{State}
use Rattle.frames_memory.specs.Memory.{FramesMemory, open_list_of}
use Rattle.frames_memory.specs.Represents.{StoredAt, Represents}
use Rattle.frames_memory.proofs.PieceLaws.{stored_first, stored_at}
use Rattle.frames_memory.proofs.OpenListLaws.{ends_at, short_bytes, end_at, entry_at_lem}

-- A test of each index below an even number.
by_twos : (all test : ℕ → Bool) → all 0 ≡ true → ((n : ℕ) → all (suc n) ≡ (all n && test n)) → (n : ℕ)
    → ((i : ℕ) → i < n → (test (2 * i) ≡ true) × (test (2 * i + 1) ≡ true)) → all (2 * n) ≡ true
by_twos all test first next zero each = first
by_twos all test first next (suc n) each =
    let z : 2 * suc n ≡ suc (suc (2 * n)) = omega arith in
    let e : 2 * n + 1 ≡ suc (2 * n) = omega arith in
    let t : test (suc (2 * n)) ≡ true = rw e at (each n (omega arith)).1 in
    rw (z, next (suc (2 * n)), next (2 * n), by_twos all test first next n (λ i h. each i (omega arith)), (each n (omega arith)).0, t) refl

-- The lent list x holds the validated pairs l, packed from the offset `at` of its store.
pub record HoldsValidated (x : LentList) (l : List Pair) : Type 0 where
  pub counts : x.count ≡ length l
  pub few : x.count ≤ 64
  pub held : x.count ≤ length x.places / 4
  pub reads : pairs_of x ≡ l
  pub ends : all_ends l ≡ true
  pub short : all_short l ≡ true
  pub at : ℕ
  pub inside : at + end_bytes l ≤ length x.store
  pub numbers : StoredAt x.places 0 (list_places at l)

module _ (x : LentList) (l : List Pair) (g : HoldsValidated x l) where
  counted : count_within_limit x ≡ true
  unfolding count_within_limit
  counted = rw (le-leb x.count 64 g.few, le-leb x.count (length x.places / 4) g.held)

  all_present : present_places x ≡ 2 * x.count
  unfolding present_places
  all_present = rw (le-leb x.count (length x.places / 4) g.held)

  module _ (i : ℕ) (h : i < length l) where
    abbrev entry : List ℕ
    entry = pair_entry (g.at + end_bytes (take i l)) (source_at l i) (target_at l i)

    number : (c : ℕ) → c < 4 → get_or x.places (4 * i + c) 0 ≡ get_or entry c 0
    number c k =
        ap (λ (p : List ℕ). get_or p (4 * i + c) 0) (stored_first x.places (list_places g.at l) 0 g.numbers)
        ∙ stored_at (list_places g.at l ++ drop (length (list_places g.at l)) x.places) entry (4 * i)
        (entry_at_lem l g.at i (drop (length (list_places g.at l)) x.places) h) c k

    number_at : (j c : ℕ) → j ≡ 4 * i + c → c < 4 → get_or x.places j 0 ≡ get_or entry c 0
    number_at j c e k = rw e (number c k)

    -- A place with these numbers has at most 255 bytes and lies within the store.
    place_fits : (j start size : ℕ) → start_at x.places j ≡ start → length_at x.places j ≡ size → start + size ≤ g.at + end_bytes l → size ≤ 255
        → is_short_at x.store x.places j ≡ true
    unfolding is_short_at in_store
    place_fits j start size s e b c =
        or_right (leb (length x.places / 2) j) (leb (start_at x.places j + length_at x.places j) (length x.store) && leb (length_at x.places j) 255)
        (rw (s, e, le-leb (start + size) (length x.store) (omega (arith, g.inside)), le-leb size 255 c) refl)

    pair_fits : (is_short_at x.store x.places (2 * i) ≡ true) × (is_short_at x.store x.places (2 * i + 1) ≡ true)
    pair_fits =
        let w = short_at l g.short i in (
          place_fits (2 * i) (g.at + end_bytes (take i l)) (length (source_at l i)) (number_at (2 * (2 * i)) 0 (omega arith) (omega arith))
              (number_at (2 * (2 * i) + 1) 1 (omega arith) (omega arith)) (omega (arith, end_at l i h)) w.0,
          place_fits (2 * i + 1) (g.at + end_bytes (take i l) + length (source_at l i)) (length (target_at l i)) (number_at (2 * (2 * i + 1)) 2 (omega arith) (omega arith))
              (number_at (2 * (2 * i + 1) + 1) 3 (omega arith) (omega arith)) (omega (arith, end_at l i h)) w.1,
        )

    -- The texts read there are the ends of the pair.
    source_there : text_at x.store x.places (2 * i) ≡ source_at l i
    source_there =
        let z : 2 * i ≡ 2 * i + 0 = omega arith in
        ap (text_at x.store x.places) z ∙ sym (pairs_in_source x.store x.places x.count i (omega (arith, g.counts)))
        ∙ ap (λ (k : List Pair). source_at k i) g.reads

    target_there : text_at x.store x.places (2 * i + 1) ≡ target_at l i
    target_there = sym (pairs_in_target x.store x.places x.count i (omega (arith, g.counts))) ∙ ap (λ (k : List Pair). target_at k i) g.reads

  list_fits : list_short x ≡ true
  unfolding list_short places_short
  list_fits =
      rw all_present
      (by_twos (places_short x.store x.places) (is_short_at x.store x.places) refl (λ k. refl) x.count (λ i h. pair_fits i (omega (arith, g.counts))))

  list_all_lem : (passes : Text → Bool) → ((i : ℕ) → (passes (source_at l i) ≡ true) × (passes (target_at l i) ≡ true)) → list_all passes x ≡ true
  unfolding list_all places_all
  list_all_lem passes each =
      rw all_present
      (by_twos (places_all passes x.store x.places) (λ j. passes (text_at x.store x.places j)) refl (λ k. refl) x.count (λ i h. one i (omega (arith, g.counts))))
    where
      one : (i : ℕ) → i < length l → (passes (text_at x.store x.places (2 * i)) ≡ true) × (passes (text_at x.store x.places (2 * i + 1)) ≡ true)
      one i h = (rw (source_there i h) (each i).0, rw (target_there i h) (each i).1)

  ends_there : (i : ℕ) → (is_end (source_at l i) ≡ true) × (is_end (target_at l i) ≡ true)
  unfolding all_ends is_end
  ends_there = ends_at is_end refl l g.ends

  legal_there : (i : ℕ) → (legal (source_at l i) ≡ true) × (legal (target_at l i) ≡ true)
  legal_there i = (end_legal (source_at l i) (ends_there i).0, end_legal (target_at l i) (ends_there i).1)

  pub holds_passes : validate_call (x ∷ []) [] [] ≡ Ok tt
  unfolding validate_call every first_failed
  holds_passes = rw (list_fits, list_all_lem legal legal_there, list_all_lem is_end ends_there, counted) refl

-- The open list.
module _ (m : FramesMemory) (st : State) (g : Represents m st) where
  -- The list read from the buffers is the open list.
  pub open_read : pairs_of (open_list_of m) ≡ st.opened
  open_read = opened.reads st.opened m.kept.opened m.bytes m.places g.opened

  -- The bytes of 64 pairs fit.
  pub in_bytes : end_bytes st.opened ≤ 510 * length st.opened
  in_bytes = short_bytes st.opened g.short

  open_holds : HoldsValidated (open_list_of m) st.opened
  open_holds = record {
    counts = g.opened.number;
    few = omega (arith, g.opened.number, g.within.pairs);
    held = omega (arith, g.opened.number, g.within.pairs, g.large.places);
    reads = open_read;
    ends = g.ends;
    short = g.short;
    at = 0;
    inside = omega (arith, in_bytes, g.within.pairs, g.large.bytes);
    numbers = ap (take (length (list_places 0 st.opened))) g.opened.places ∙ take-append_seam (list_places 0 st.opened) (drop (length (list_places 0 st.opened)) m.places);
  }

  pub list_counts : count_within_limit (open_list_of m) ≡ true
  list_counts = counted (open_list_of m) st.opened open_holds

  pub list_passes : validate_call (open_list_of m ∷ []) [] [] ≡ Ok tt
  list_passes = holds_passes (open_list_of m) st.opened open_holds
