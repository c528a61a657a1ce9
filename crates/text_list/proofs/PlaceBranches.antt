-- Lemmas for the branches of `text_at`, `write_place` and `push_text`.
use mathlib.Core.Path.{◌≡◌, refl, ◌∙◌}
use mathlib.Core.Bool.{Bool, true, false, cond}
use mathlib.Core.List.{List, [], ◌∷◌, append_assoc}
use Prim.Native.Nat.{ℕ, suc, ◌+◌, ◌*◌, ◌-◌, ◌/◌, ◌≤◌, ◌<◌}
use native.Mathlib.Omega.{arith}
use lib.Dec.{leb}
use lib.ListN.{length, get_or, set, take, drop, get_or-eq_default}
use lib.Seq.{sets-eq}
use borrow.Author.Tests.{le-leb, lt-leb}
use Rattle.text.specs.Text.{Text, written_at, written_if_fits}
use Rattle.text.proofs.BoolLaws.{and_no}
use Rattle.text_list.specs.Places.{in_store, text_at}
use Rattle.text_list.specs.Packed.{text_places, text_fits, text_end, bytes_with_text, places_with_text}

no_length : (places : List ℕ) (j : ℕ) → length places / 2 ≤ j → get_or places (2 * j + 1) 0 ≡ 0
no_length places j h = get_or-eq_default places 0 (omega arith)

-- An empty part, whatever the result of the test.
either : (b : Bool) (s : Text) → [] ≡ cond b (take 0 s) []
either true s = refl
either false s = refl

-- `text_at`
module _ (store : Text) (places : List ℕ) (j : ℕ) where
  pub text_missing : length places / 2 ≤ j → [] ≡ text_at store places j
  unfolding text_at
  text_missing h = rw (no_length places j h) (either (leb (get_or places (2 * j) 0 + 0) (length store)) (drop (get_or places (2 * j) 0) store))

  pub outside_start : length store < get_or places (2 * j) 0 → in_store store places j ≡ false
  unfolding in_store
  outside_start h = lt-leb (get_or places (2 * j) 0 + get_or places (2 * j + 1) 0) (length store) (omega arith)

  pub outside_end : length store - get_or places (2 * j) 0 < get_or places (2 * j + 1) 0 → in_store store places j ≡ false
  unfolding in_store
  outside_end h = lt-leb (get_or places (2 * j) 0 + get_or places (2 * j + 1) 0) (length store) (omega arith)

  pub is_inside : get_or places (2 * j) 0 ≤ length store → get_or places (2 * j + 1) 0 ≤ length store - get_or places (2 * j) 0 → in_store store places j ≡ true
  unfolding in_store
  is_inside h k = le-leb (get_or places (2 * j) 0 + get_or places (2 * j + 1) 0) (length store) (omega arith)

  pub text_start : length store < get_or places (2 * j) 0 → [] ≡ text_at store places j
  unfolding text_at
  text_start h = rw (outside_start h)

  pub text_end_lem : length store - get_or places (2 * j) 0 < get_or places (2 * j + 1) 0 → [] ≡ text_at store places j
  unfolding text_at
  text_end_lem h = rw (outside_end h)

  pub text_part : get_or places (2 * j) 0 ≤ length store → get_or places (2 * j + 1) 0 ≤ length store - get_or places (2 * j) 0
      → take (get_or places (2 * j) 0 + get_or places (2 * j + 1) 0 - get_or places (2 * j) 0) (drop (get_or places (2 * j) 0) store) ≡ text_at store places j
  unfolding text_at
  text_part h k =
      let z : get_or places (2 * j) 0 + get_or places (2 * j + 1) 0 - get_or places (2 * j) 0 ≡ get_or places (2 * j + 1) 0 = omega arith in
      rw (z, is_inside h k)

pub ruleset reading = (text_missing, text_start, text_end_lem, text_part)

-- `write_place`
module _ (j a b : ℕ) (slots : List ℕ) where
  pub place_over : length slots / 2 ≤ j → slots ≡ written_if_fits (2 * j) (a ∷ b ∷ []) slots
  unfolding written_if_fits
  place_over h = rw (lt-leb (2 * j + 2) (length slots) (omega arith)) refl

  pub place_stored : j < length slots / 2 → set (set slots (2 * j) a) (2 * j + 1) b ≡ written_if_fits (2 * j) (a ∷ b ∷ []) slots
  unfolding written_if_fits
  place_stored h =
      let v : List ℕ = a ∷ b ∷ [] in
      let e : 2 * j + 1 ≡ suc (2 * j) = omega arith in
      rw (le-leb (2 * j + 2) (length slots) (omega arith), e) (sets-eq v slots (2 * j) (omega arith) ∙ append_assoc (take (2 * j) slots) v (drop (2 * j + 2) slots))

-- `push_text`
module _ (t : Text) (n at : ℕ) (bytes : Text) (slots : List ℕ) where
  abbrev pub Pushed : ℕ → Text → List ℕ → Type 0
  Pushed r bytes' slots' = (r ≡ text_end t n at bytes slots) × ((bytes' ≡ bytes_with_text t n at bytes slots) × (slots' ≡ places_with_text t n at bytes slots))

  kept : text_fits t n at bytes slots ≡ false → Pushed at bytes slots
  unfolding text_end bytes_with_text places_with_text
  kept e = rw e (refl, (refl, refl))

  pub push_long : length bytes < at + length t → Pushed at bytes slots
  unfolding text_fits
  push_long h = kept (rw (lt-leb (at + length t) (length bytes) h))

  pub push_many : length slots < 2 * n + 2 → Pushed at bytes slots
  unfolding text_fits
  push_many h = kept (rw (lt-leb (2 * n + 2) (length slots) h) (and_no (leb (at + length t) (length bytes))))

  module _ (h : at + length t ≤ length bytes) (g : 2 * n + 2 ≤ length slots) where
    fits : text_fits t n at bytes slots ≡ true
    unfolding text_fits
    fits = rw (le-leb (at + length t) (length bytes) h, le-leb (2 * n + 2) (length slots) g)

    pub push_done : (bytes' : Text) (slots' : List ℕ) → bytes' ≡ written_if_fits at t bytes → slots' ≡ written_if_fits (2 * n) (at ∷ length t ∷ []) slots
        → Pushed (at + length t) bytes' slots'
    unfolding text_end bytes_with_text places_with_text written_if_fits text_places
    push_done bytes' slots' e f =
        rw fits (
          refl,
          (e ∙ rw (le-leb (at + length t) (length bytes) h) refl, f ∙ rw (le-leb (2 * n + 2) (length slots) g) refl),
        )

    -- If the text fits, it is appended.
    pub push_there : (r : ℕ) (bytes' : Text) (slots' : List ℕ) → Pushed r bytes' slots'
        → (r ≡ at + length t) × ((bytes' ≡ written_at at t bytes) × (slots' ≡ written_at (2 * n) (text_places at (t ∷ [])) slots))
    unfolding text_end bytes_with_text places_with_text
    push_there r bytes' slots' w = rw fits at w
