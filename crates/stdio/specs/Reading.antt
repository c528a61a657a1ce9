-- Meaning: The result of reading.
use Rattle.std.specs.Prelude.{ℕ, ◌<◌, ◌≤◌, List, length, Option, Result, IfOk}
use Rattle.std.specs.Io.KnownBytes.{Consumes}

-- At most n bytes were read.
abbrev pub ReadAtMost : {E : Type 0} → ℕ → Result ℕ E → Type 0
ReadAtMost n r = IfOk r (λ k. k ≤ n)

-- Fewer than n of the bytes known to be left were read, if the bytes are known.
abbrev pub FewerConsumed : Option (List ℕ) → Option (List ℕ) → ℕ → Type 0
FewerConsumed old new n = (bs : List ℕ) × Consumes old new bs × (length bs < n)
