-- Meaning: Functions on one 64-bit float that the time offsets need beyond the logic's own IEEE 754 (`lib.Ieee`). There a NaN is the one value
-- `nan`, with no sign and no payload, so an equation between floats states the requirement. Requirements: "Results agree bit for bit; a NaN
-- agrees with a NaN."
use Rattle.std.specs.Prelude.{ℕ, Bool, true, false, pos, negsuc, Float}
use Rattle.std.specs.Float.{nan, inf, fin, binary64}
use Rattle.std.specs.Float.Ieee.{lt, to_bits}

-- The float +0.
abbrev pub plus_zero : Float
plus_zero = fin false 0 (pos 0)

-- The float 1.
abbrev pub one : Float
one = fin false 1 (pos 0)

-- The float nearest to 1e-6: 4722366482869645 / 2 ^ 72.
abbrev pub tolerance : Float
tolerance = fin false 4722366482869645 (negsuc 71)

-- The float is neither an infinity nor a NaN (Rust: is_finite).
abbrev pub is_finite : Float → Bool
is_finite nan = false
is_finite (inf s) = false
is_finite (fin s m e) = true

-- The absolute value: the sign is cleared (Rust: abs).
abbrev pub absolute_value : Float → Float
absolute_value nan = nan
absolute_value (inf s) = inf false
absolute_value (fin s m e) = fin false m e

-- The float is closer to zero than the tolerance.
unfoldable pub is_small : Float → Bool
is_small x = lt (absolute_value x) tolerance

-- The bits of the float (Rust: to_bits). The requirements leave the bits of a NaN open; here every NaN has the pattern
-- 0x7ff8_0000_0000_0000.
abbrev pub bit_pattern : Float → ℕ
bit_pattern x = to_bits binary64 x
