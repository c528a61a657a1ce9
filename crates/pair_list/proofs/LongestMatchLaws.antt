-- The selected key: of those that pass the test, one with most elements, and the last of these.
use Rattle.std.specs.Prelude.{Option, Some}
use mathlib.Core.Path.{◌≡◌, ap}
use mathlib.Core.Bool.{Bool, true, not}
use Prim.Native.Nat.{ℕ, ◌<◌}
use Rattle.text.specs.Text.{Text, is_nil}
use Rattle.text.proofs.BoolLaws.{and_r}
use Rattle.path_prefix.specs.Prefix.{has_prefix}
use Rattle.path_prefix.specs.Elements.{element_count}
use Rattle.pair_list.specs.LongestMatch.{longest_by, matches, longest_match}
use Rattle.pair_list.proofs.BestLaws.{Best, Says, says, best_chosen, best_agree}

-- The key at index i is the longest of the first n keys that pass a test.
abbrev pub IsLongest : (Text → Bool) → (ℕ → Text) → ℕ → ℕ → Type 0
IsLongest passes key n i = Best (λ (k : ℕ). passes (key k)) (λ (k : ℕ). element_count (key k)) n i

-- What a result states about the first n keys.
abbrev pub SaysLongest : (Text → Bool) → (ℕ → Text) → ℕ → Option ℕ → Type 0
SaysLongest passes key n o = Says (λ (k : ℕ). passes (key k)) (λ (k : ℕ). element_count (key k)) n o

-- The result of `longest_match` is correct in this sense.
pub best_says : (p : Text) (key : ℕ → Text) (n : ℕ) → SaysLongest (matches p) key n (longest_match p key n)
unfolding longest_match
best_says p key n = says (λ (k : ℕ). matches p (key k)) (λ (k : ℕ). element_count (key k)) n

module _ (passes : Text → Bool) (key : ℕ → Text) where
  pub chosen_best : (n i : ℕ) → longest_by passes key n ≡ Some i → IsLongest passes key n i
  unfolding longest_by
  chosen_best n i e = best_chosen (λ (k : ℕ). passes (key k)) (λ (k : ℕ). element_count (key k)) n i e

  -- The selection depends only on the first n keys.
  pub best_same : (key' : ℕ → Text) (n : ℕ) → ((i : ℕ) → i < n → key i ≡ key' i) → longest_by passes key n ≡ longest_by passes key' n
  unfolding longest_by
  best_same key' n same =
      best_agree (λ (k : ℕ). passes (key k)) (λ (k : ℕ). passes (key' k)) (λ (k : ℕ). element_count (key k)) (λ (k : ℕ). element_count (key' k)) n
      (λ i h. ap passes (same i h)) (λ i h. ap (λ (t : Text). element_count t) (same i h))

-- A key that matches is a prefix.
pub served : (p k : Text) → matches p k ≡ true → has_prefix p k ≡ true
unfolding matches
served p k h = and_r (not (is_nil k)) (has_prefix p k) h
