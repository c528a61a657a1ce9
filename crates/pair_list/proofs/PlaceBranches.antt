-- Lemmas for the branches of `key_at` and `is_short_at`, and for the places that `all_short`, `all_legal` and `all_ends` test.
use mathlib.Core.Path.{◌≡◌, refl, sym}
use mathlib.Core.Bool.{Bool, true, false, ◌&&◌}
use mathlib.Core.List.{List, []}
use Prim.Native.Nat.{ℕ, zero, suc, ◌+◌, ◌*◌, ◌-◌, ◌/◌, ◌≤◌, ◌<◌}
use native.Mathlib.Omega.{arith}
use lib.Dec.{leb}
use lib.ListN.{length, get_or}
use borrow.Author.Tests.{le-leb, lt-leb}
use Rattle.std.specs.List.{list_all, range_with_len}
use native.Mathlib.Nat.{zero-add}
use Rattle.text.specs.Text.{Text}
use Rattle.text.proofs.BoolLaws.{and_yes, and_assoc}
use Rattle.text_list.specs.Places.{text_at}
use Rattle.text_list.proofs.PlaceBranches.{text_missing, outside_start, outside_end, is_inside}
use Rattle.pair_list.specs.Places.{key_at, is_short_at, places_short, places_all}

module _ (store : Text) (places : List ℕ) (j : ℕ) where
  pub fits_missing : length places / 2 ≤ j → true ≡ is_short_at store places j
  unfolding is_short_at
  fits_missing h = rw (le-leb (length places / 2) j h)

  module _ (there : j < length places / 2) where
    pub fits_start : length store < get_or places (2 * j) 0 → false ≡ is_short_at store places j
    unfolding is_short_at
    fits_start h = rw (lt-leb (length places / 2) j there, outside_start store places j h)

    pub fits_end : length store - get_or places (2 * j) 0 < get_or places (2 * j + 1) 0 → false ≡ is_short_at store places j
    unfolding is_short_at
    fits_end h = rw (lt-leb (length places / 2) j there, outside_end store places j h)

    pub fits_length : get_or places (2 * j) 0 ≤ length store → get_or places (2 * j + 1) 0 ≤ length store - get_or places (2 * j) 0
        → leb (get_or places (2 * j + 1) 0) 255 ≡ is_short_at store places j
    unfolding is_short_at
    fits_length h k = rw (lt-leb (length places / 2) j there, is_inside store places j h k)

pub key_missing : (store : Text) (places : List ℕ) (i : ℕ) (invert : Bool) → length places / 2 ≤ i → [] ≡ key_at store places invert i
key_missing store places i true h = text_missing store places (2 * i + 1) (omega arith)
key_missing store places i false h = text_missing store places (2 * i + 0) (omega arith)

-- A test of each number below n, the last one apart.
range_last : (p : ℕ → Bool) (a n : ℕ) → list_all p (range_with_len a (suc n)) ≡ (list_all p (range_with_len a n) && p (a + n))
range_last p a zero = let z : a + 0 ≡ a = omega arith in rw z (and_yes (p a))
range_last p a (suc n) =
    let z : a + suc n ≡ a + 1 + n = omega arith in
    rw (z, range_last p (a + 1) n) (sym (and_assoc (p a) (list_all p (range_with_len (a + 1) n)) (p (a + 1 + n))))

module _ (store : Text) (places : List ℕ) where
  pub range_short : (n : ℕ) → list_all (is_short_at store places) (range_with_len 0 n) ≡ places_short store places n
  unfolding places_short
  range_short zero = refl
  range_short (suc n) = rw (range_last (is_short_at store places) 0 n, range_short n, zero-add n) refl

  pub range_all : (passes : Text → Bool) (n : ℕ) → list_all (λ j. passes (text_at store places j)) (range_with_len 0 n) ≡ places_all passes store places n
  unfolding places_all
  range_all passes zero = refl
  range_all passes (suc n) = rw (range_last (λ j. passes (text_at store places j)) 0 n, range_all passes n, zero-add n) refl
