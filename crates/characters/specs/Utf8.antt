-- Meaning: UTF-8: the bytes of a character, and the characters of a text. A character is given by its code point. The Unicode Standard, 3.9,
-- definitions D76 (scalar values) and D92 (UTF-8); RFC 3629.
use Rattle.std.specs.Prelude.{ℕ, zero, suc, ◌+◌, ◌*◌, ◌/◌, ◌%◌, ◌≡◌, Bool, true, not, cond, ◌&&◌, List, [], ◌∷◌, ◌++◌, ◌↔◌, leb, Option, Some, None}
use Rattle.text.specs.Text.{Text}
use Rattle.text.specs.Range.{in_range}

-- The number is the code point of a character (a Unicode scalar value): it is at most U+10FFFF, and no surrogate.
unfoldable pub is_scalar_value : ℕ → Bool
is_scalar_value c = leb c 0x10FFFF && not (in_range 0xD800 0xDFFF c)

-- Every number of the list is the code point of a character.
unfoldable pub are_scalar_values : List ℕ → Bool
unfolding is_scalar_value
are_scalar_values [] = true
are_scalar_values (c ∷ r) = is_scalar_value c && are_scalar_values r

-- The byte that continues a character and holds the lowest six bits of c.
abbrev pub continuation : ℕ → ℕ
continuation c = 0x80 + c % 64

-- The bytes of the character c, in UTF-8: one up to U+007F, two up to U+07FF, three up to U+FFFF, and otherwise four. Each byte but the first
-- holds six bits.
unfoldable pub encode : ℕ → Text
encode c =
    cond (leb c 0x7F) (c ∷ [])
    (cond (leb c 0x7FF) ((0xC0 + c / 64) ∷ continuation c ∷ [])
    (cond (leb c 0xFFFF) ((0xE0 + c / 64 / 64) ∷ continuation (c / 64) ∷ continuation c ∷ [])
    ((0xF0 + c / 64 / 64 / 64) ∷ continuation (c / 64 / 64) ∷ continuation (c / 64) ∷ continuation c ∷ [])))

-- The bytes of characters, one after the other.
unfoldable pub encode_all : List ℕ → Text
unfolding encode
encode_all [] = []
encode_all (c ∷ r) = encode c ++ encode_all r

-- The byte continues a character.
abbrev pub is_continuation : ℕ → Bool
is_continuation a = in_range 0x80 0xBF a

-- The number that the bits so far and the six bits of the byte a make.
abbrev pub with_bits : ℕ → ℕ → ℕ
with_bits bits a = bits * 64 + a % 64

-- Where in a text the reader is.
pub data Reading : Type 0 where
  -- Between two characters.
  Between : Reading
  -- In a character: how many bytes it has after the next one, the least code point that takes as many bytes as this character, and the number
  -- that its bits so far make.
  Inside : ℕ → ℕ → ℕ → Reading

-- The number c is the code point of a character, and no less than the least one that takes as many bytes: its bytes are its shortest form.
abbrev pub is_shortest : ℕ → ℕ → Bool
is_shortest least c = leb least c && is_scalar_value c

-- A character before the characters of the rest; none if the rest has none.
abbrev pub prepend : ℕ → Option (List ℕ) → Option (List ℕ)
prepend c None = None
prepend c (Some r) = Some (c ∷ r)

-- The characters of a text, read from the middle of it; none if it is malformed: overlong forms, surrogates, numbers above U+10FFFF, characters
-- that are cut off, and bytes that continue none.
unfoldable pub decode_from : Reading → Text → Option (List ℕ)
unfolding is_scalar_value
decode_from Between [] = Some []
decode_from Between (a ∷ r) =
    cond (leb a 0x7F) (prepend a (decode_from Between r))
    (cond (in_range 0xC0 0xDF a) (decode_from (Inside 0 0x80 (a % 32)) r)
    (cond (in_range 0xE0 0xEF a) (decode_from (Inside 1 0x800 (a % 16)) r)
    (cond (in_range 0xF0 0xF7 a) (decode_from (Inside 2 0x10000 (a % 8)) r) None)))
decode_from (Inside more least bits) [] = None
decode_from (Inside zero least bits) (a ∷ r) =
    cond (is_continuation a && is_shortest least (with_bits bits a)) (prepend (with_bits bits a) (decode_from Between r)) None
decode_from (Inside (suc more) least bits) (a ∷ r) =
    cond (is_continuation a) (decode_from (Inside more least (with_bits bits a)) r) None

-- The characters of a text; none if it is malformed.
unfoldable pub decode : Text → Option (List ℕ)
unfolding decode_from
decode p = decode_from Between p

-- The text is the bytes of these characters.
pub record Encoded (p : Text) (characters : List ℕ) : Type 0 where
  pub scalar : are_scalar_values characters ≡ true
  pub same : encode_all characters ≡ p

-- Theorem (proofs/Theorem.antt): the well-formed texts are the bytes of characters, one after the other. Encoding and then decoding gives the
-- characters, and decoding and then encoding gives the text.
abbrev pub DecodesExactly : Type 0
DecodesExactly = (p : Text) (characters : List ℕ) → (decode p ≡ Some characters) ↔ Encoded p characters
