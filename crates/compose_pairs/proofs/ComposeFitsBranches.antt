-- Lemmas about sufficient capacity for composing, and about the branches of `sum_at_most` and `compose_fits`.
use mathlib.Core.Path.{◌≡◌, refl, sym, ◌∙◌}
use mathlib.Core.Bool.{Bool, true, false, ◌&&◌}
use mathlib.Core.List.{List}
use Prim.Native.Nat.{ℕ, ◌+◌, ◌/◌, ◌^◌, ◌≤◌, ◌<◌}
use native.Mathlib.Omega.{arith}
use lib.Dec.{leb}
use lib.ListN.{length}
use borrow.Author.Tests.{le-leb, lt-leb, leb-true}
use Rattle.text.specs.Text.{Text}
use Rattle.text.proofs.BoolLaws.{and_l, and_r, told}
use Rattle.pair_list.specs.Pair.{Pair, every_end}
use Rattle.pair_list.specs.Places.{pairs_in}
use Rattle.pair_list.proofs.PlaceLaws.{pairs_in_length}
use Rattle.compose_pairs.specs.ComposePairs.{at_most511, compose_fits, CanCompose}

-- `compose_fits`
module _ (store : Text) (places : List ℕ) (n : ℕ) (istore : Text) (iplaces : List ℕ) (k room slots : ℕ) where
  abbrev outer : List Pair
  outer = pairs_in store places n

  abbrev inner : List Pair
  inner = pairs_in istore iplaces k

  asked : compose_fits outer inner room slots ≡ (leb (k + n) (room / 1534) && (leb (k + n) (slots / 4) && (every_end at_most511 outer && every_end at_most511 inner)))
  unfolding compose_fits
  asked = rw (pairs_in_length store places n, pairs_in_length istore iplaces k) refl

  pub fit_over : 2 ^ 64 ≤ k + n → room < 2 ^ 64 → false ≡ compose_fits outer inner room slots
  fit_over h r = sym (asked ∙ rw (lt-leb (k + n) (room / 1534) (omega arith)) refl)

  pub fit_room : room / 1534 < k + n → false ≡ compose_fits outer inner room slots
  fit_room h = sym (asked ∙ rw (lt-leb (k + n) (room / 1534) h) refl)

  module _ (h : k + n ≤ room / 1534) where
    pub fit_slots : slots / 4 < k + n → false ≡ compose_fits outer inner room slots
    fit_slots g = sym (asked ∙ rw (le-leb (k + n) (room / 1534) h, lt-leb (k + n) (slots / 4) g) refl)

    module _ (g : k + n ≤ slots / 4) (c : Bool) (i : c ≡ every_end at_most511 outer) where
      pub fit_outer : c ≡ false → false ≡ compose_fits outer inner room slots
      fit_outer l = sym (asked ∙ rw (le-leb (k + n) (room / 1534) h, le-leb (k + n) (slots / 4) g, told i l) refl)

      pub fit_inner : c ≡ true → (d : Bool) → d ≡ every_end at_most511 inner → d ≡ compose_fits outer inner room slots
      fit_inner l d j = j ∙ sym (asked ∙ rw (le-leb (k + n) (room / 1534) h, le-leb (k + n) (slots / 4) g, told i l) refl)

pub ruleset fitting = (fit_over, fit_room, fit_slots, fit_outer, fit_inner)

-- `compose_fits` and the facts that it tests.
module _ (store : Text) (places : List ℕ) (n : ℕ) (istore : Text) (iplaces : List ℕ) (k : ℕ) (bytes : Text) (slots : List ℕ) where
  abbrev Enough : Type 0
  Enough = CanCompose (pairs_in store places n) (pairs_in istore iplaces k) (k + n) bytes slots

  abbrev enough : Bool
  enough = compose_fits (pairs_in store places n) (pairs_in istore iplaces k) (length bytes) (length slots)

  pub enough_yes : Enough → enough ≡ true
  enough_yes h =
      asked store places n istore iplaces k (length bytes) (length slots)
      ∙ rw (
        h.outer_ends,
        h.inner_ends,
        le-leb (k + n) (length bytes / 1534) (omega (arith, h.scratch.room)),
        le-leb (k + n) (length slots / 4) (omega (arith, h.scratch.entries)),
      ) refl

  pub enough_back : enough ≡ true → Enough
  enough_back e =
      let z = sym (asked store places n istore iplaces k (length bytes) (length slots)) ∙ e in
      let h : leb (k + n) (length bytes / 1534) ≡ true = search (and_l, and_r) in
      let g : leb (k + n) (length slots / 4) ≡ true = search (and_l, and_r) in
      record {
        outer_ends = search (and_l, and_r);
        inner_ends = search (and_l, and_r);
        scratch = record { room = omega (arith, leb-true (k + n) (length bytes / 1534) h); entries = omega (arith, leb-true (k + n) (length slots / 4) g) };
      }
