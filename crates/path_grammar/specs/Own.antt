-- Meaning: What belongs to a path itself, and what to the path in its brackets.
use Rattle.std.specs.Prelude.{Bool, not}
use Rattle.text.specs.Text.{Text, lacks_byte, take_until, drop_until}
use Rattle.text.specs.Bytes.{dot, open_brace, open_bracket}

-- The own part of a path: the text before the first `[`. Requirements: "Names and selections inside brackets don't count as the path's own".
unfoldable pub own_part : Text → Text
unfolding take_until
own_part p = take_until open_bracket p

-- The target part of a path: the path in brackets at its end, with the brackets; empty if it has none.
unfoldable pub target_part : Text → Text
unfolding drop_until
target_part p = drop_until open_bracket p

-- The path has a variant selection of its own (Rust: has_variant_selection): in the own part of a legal path only a selection contains `{`.
unfoldable pub has_variant_selection : Text → Bool
unfolding own_part lacks_byte
has_variant_selection p = not (lacks_byte open_brace (own_part p))

-- The path has a property of its own: in the own part of a legal path only a property contains a dot.
unfoldable pub has_property : Text → Bool
unfolding own_part lacks_byte
has_property p = not (lacks_byte dot (own_part p))
