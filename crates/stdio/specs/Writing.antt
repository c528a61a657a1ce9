-- Meaning: What a report leaves in a writer.
use Rattle.std.specs.Prelude.{ℕ, List, ◌++◌, take, Option}
use Rattle.std.specs.Io.KnownBytes.{Appends}

-- What the writer held stays, and the beginning of a text that starts with `what` is added.
abbrev pub LineBegun : Option (List ℕ) → Option (List ℕ) → List ℕ → Type 0
LineBegun held held' what = (rest : List ℕ) × (n : ℕ) × Appends held held' (take n (what ++ rest))
