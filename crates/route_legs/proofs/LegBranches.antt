-- Lemmas for the branches of `write_leg`.
use mathlib.Core.Path.{◌≡◌, refl, ◌∙◌}
use mathlib.Core.List.{List, [], ◌∷◌}
use Prim.Native.Nat.{ℕ, ◌+◌, ◌*◌, ◌/◌, ◌≤◌, ◌<◌}
use native.Mathlib.Omega.{arith}
use lib.ListN.{length, set}
use borrow.Author.Tests.{le-leb, lt-leb}
use Rattle.text.specs.Text.{written_at, written_if_fits}
use Rattle.pair_list_write.proofs.WriteBranches.{three_stored}

module _ (k a b c : ℕ) (l : List ℕ) where
  pub leg_beyond : length l / 3 ≤ k → l ≡ written_if_fits (3 * k) (a ∷ b ∷ c ∷ []) l
  unfolding written_if_fits
  leg_beyond h = rw (lt-leb (3 * k + 3) (length l) (omega arith)) refl

  pub leg_stored : k < length l / 3 → set (set (set l (3 * k) a) (3 * k + 1) b) (3 * k + 2) c ≡ written_if_fits (3 * k) (a ∷ b ∷ c ∷ []) l
  unfolding written_if_fits
  leg_stored h = rw (le-leb (3 * k + 3) (length l) (omega arith)) (three_stored l (3 * k) a b c (omega arith))

  -- A leg that lies in the slice is written.
  pub leg_written : 3 * k + 3 ≤ length l → (l' : List ℕ) → l' ≡ written_if_fits (3 * k) (a ∷ b ∷ c ∷ []) l → l' ≡ written_at (3 * k) (a ∷ b ∷ c ∷ []) l
  unfolding written_if_fits
  leg_written h l' e = e ∙ rw (le-leb (3 * k + 3) (length l) h) refl
