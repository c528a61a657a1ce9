-- Meaning: Path prefixes. OpenUSD: SdfPath::HasPrefix; unlike there, the empty path is a prefix of every path here.
use Rattle.std.specs.Prelude.{ℕ, Bool, true, false, ◌||◌, [], ◌∷◌, eqb, Option, Some, None}
use Rattle.text.specs.Text.{Text, strip_prefix, ends_with_byte}
use Rattle.text.specs.Bytes.{close_brace, dot, open_brace, slash}
use Rattle.path_grammar.specs.Legal.{is_root}

-- An element boundary lies between the prefix s and a remainder that begins with byte a. Requirements: "the prefix is `/`, or the rest
-- begins with `/`, `.` or `{`, or the prefix ends in `}`".
unfoldable pub is_boundary : Text → ℕ → Bool
unfolding ends_with_byte
is_boundary s a = is_root s || eqb a slash || eqb a dot || eqb a open_brace || ends_with_byte close_brace s

-- The remainder r may follow the prefix s. With an empty remainder the texts are equal.
unfoldable pub can_follow : Text → Text → Bool
unfolding is_boundary
can_follow s [] = true
can_follow s (a ∷ r) = is_boundary s a

-- There is a remainder, and it may follow the prefix s.
abbrev pub can_follow_some : Text → Option Text → Bool
unfolding can_follow
can_follow_some s None = false
can_follow_some s (Some r) = can_follow s r

-- The path p has the prefix s. Requirements: "equal texts; or the text begins with the prefix and the prefix is `/`, or the rest begins
-- with `/`, `.` or `{`, or the prefix ends in `}`."
unfoldable pub has_prefix : Text → Text → Bool
unfolding strip_prefix can_follow_some
has_prefix p s = can_follow_some s (strip_prefix s p)
