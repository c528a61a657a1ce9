-- Meaning: The best index: of the indices below a number that pass a test, the one with the greatest weight, the later one on a tie. Each search for
-- a longest match is of this form: maps weigh a key by its elements, chaining weighs a source by its bytes.
use Rattle.std.specs.Prelude.{ℕ, zero, suc, Bool, true, cond, ◌&&◌, leb, Option, Some, None}

-- Index n is at least as heavy as the index selected before it, if any.
abbrev pub not_lighter : (ℕ → ℕ) → Option ℕ → ℕ → Bool
not_lighter weight None n = true
not_lighter weight (Some i) n = leb (weight i) (weight n)

-- Of the indices below n that pass a test, the one with the greatest weight, the later one on a tie.
unfoldable pub best_index : (ℕ → Bool) → (ℕ → ℕ) → ℕ → Option ℕ
best_index passes weight zero = None
best_index passes weight (suc n) = cond (passes n && not_lighter weight (best_index passes weight n) n) (Some n) (best_index passes weight n)
