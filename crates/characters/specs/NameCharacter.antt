-- Meaning: The characters outside ASCII that a name may have.
use Rattle.std.specs.Prelude.{ℕ, Bool, true, false, not, ◌&&◌, ◌||◌, List, [], ◌∷◌, eqb, leb, Option, Some, None}
use Rattle.text.specs.Text.{Text}
use Rattle.text.specs.Range.{in_range}
use Rattle.characters.specs.Utf8.{is_scalar_value, decode}

-- Requirements: "a control (U+0080 to U+009F)".
abbrev pub is_control : ℕ → Bool
is_control c = in_range 0x80 0x9F c

-- Requirements: "white space (U+00A0, U+1680, U+2000 to U+200A, U+2028, U+2029, U+202F, U+205F, U+3000)".
abbrev pub is_white_space : ℕ → Bool
is_white_space c =
    eqb c 0xA0 || eqb c 0x1680 || in_range 0x2000 0x200A c || eqb c 0x2028 || eqb c 0x2029 || eqb c 0x202F || eqb c 0x205F || eqb c 0x3000

-- A character outside ASCII that a name may have. Requirements: "A character from U+0080 up may begin or continue a name unless it is a control
-- .. or white space".
unfoldable pub is_name_character : ℕ → Bool
unfolding is_scalar_value
is_name_character c = is_scalar_value c && (leb 0x80 c && not (is_control c || is_white_space c))

-- The character is one of ASCII, or one that a name may have.
abbrev pub is_allowed : ℕ → Bool
is_allowed c = leb c 0x7F || is_name_character c

-- Every character is of this kind.
unfoldable pub are_allowed : List ℕ → Bool
unfolding is_name_character
are_allowed [] = true
are_allowed (c ∷ r) = is_allowed c && are_allowed r

-- The characters that were decoded are of this kind; none were if the text is malformed. Requirements: "Malformed UTF-8 gets 2."
abbrev pub allowed_in : Option (List ℕ) → Bool
allowed_in None = false
allowed_in (Some characters) = are_allowed characters

-- The text is well-formed UTF-8, and each of its characters outside ASCII is one that a name may have.
unfoldable pub characters_allowed : Text → Bool
unfolding are_allowed decode
characters_allowed p = allowed_in (decode p)

-- Every byte of the text is a character of ASCII.
unfoldable pub is_ascii : Text → Bool
is_ascii [] = true
is_ascii (a ∷ r) = leb a 0x7F && is_ascii r
