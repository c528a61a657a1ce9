-- Meaning: Ranges of bytes and of code points.
use Rattle.std.specs.Prelude.{ℕ, Bool, ◌&&◌, leb}

-- The number n lies between low and high, both included.
abbrev pub in_range : ℕ → ℕ → ℕ → Bool
in_range low high n = leb low n && leb n high
