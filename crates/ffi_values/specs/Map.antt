-- Meaning: A map and a direction of mapping as plain numbers.
use Rattle.std.specs.Prelude.{ℕ, Bool, cond, eqb}
use Rattle.layer_offset.specs.Offset.{identity_offset}
use Rattle.map_function.specs.declared.MapFunction.{MapFunction}
use Rattle.mapping.specs.declared.Direction.{Direction}
use Rattle.mapping.specs.declared.Direction.TheVariants.{Out, Home, Translated}

-- A map's header from its number of pairs and its mark, with the identity time offset.
abbrev pub untimed_map : ℕ → Bool → MapFunction
untimed_map count mark = record { count = count; has_root_identity = mark; time_offset = identity_offset }

-- The direction for a number: 0 is plain mapping from source to target, 1 from target to source, any other number is translation.
unfoldable pub direction_of : ℕ → Direction
direction_of n = cond (eqb n 0) Out (cond (eqb n 1) Home Translated)
