-- Meaning: Hexadecimal digits, two for each byte, the high one first. The bytes: 0 is 48, A is 65, a is 97.
use Rattle.std.specs.Prelude.{ℕ, ◌+◌, ◌-◌, ◌*◌, ◌/◌, ◌%◌, ◌≡◌, Bool, true, cond, ◌&&◌, [], ◌∷◌, map, ltb, Option, Some, None}
use Rattle.text.specs.Text.{Text}
use Rattle.text.specs.Range.{in_range}
use Rattle.text.specs.Bytes.{digit0, digit9, lower_a, lower_f, upper_a, upper_f}

-- The value of a digit; none for any other byte. Requirements: "hexadecimal digits (either case)".
unfoldable pub hex_value : ℕ → Option ℕ
hex_value b = cond (in_range digit0 digit9 b) (Some (b - digit0)) (cond (in_range upper_a upper_f b) (Some (b - (upper_a - 10))) (cond (in_range lower_a lower_f b) (Some (b - (lower_a - 10))) None))

-- The byte of a high and a low digit, followed by the remaining bytes; none if any of the three is none.
abbrev pub cons_byte : Option ℕ → Option ℕ → Option Text → Option Text
cons_byte None low rest = None
cons_byte (Some h) None rest = None
cons_byte (Some h) (Some l) None = None
cons_byte (Some h) (Some l) (Some t) = Some ((16 * h + l) ∷ t)

-- The bytes that a text of digits encodes; none for an odd number of digits or for another character.
unfoldable pub decode_hex : Text → Option Text
unfolding hex_value
decode_hex [] = Some []
decode_hex (a ∷ []) = None
decode_hex (a ∷ b ∷ s) = cons_byte (hex_value a) (hex_value b) (decode_hex s)

-- The digit of a value below 16. Requirements: "in capitals".
abbrev pub hex_digit : ℕ → ℕ
hex_digit v = cond (ltb v 10) (digit0 + v) (55 + v)

-- The digits of a list of bytes.
unfoldable pub encode_hex : Text → Text
encode_hex [] = []
encode_hex (b ∷ t) = hex_digit (b / 16) ∷ hex_digit (b % 16) ∷ encode_hex t

-- Every number of the list is a byte.
unfoldable pub are_bytes : Text → Bool
are_bytes [] = true
are_bytes (b ∷ t) = ltb b 256 && are_bytes t

-- A digit in upper case; any other byte unchanged.
abbrev pub to_upper : ℕ → ℕ
to_upper b = cond (in_range lower_a lower_f b) (b - 32) b

-- Theorem (proofs/Theorem.antt): decoding the digits of bytes yields those bytes.
unfoldable pub HexRoundTrip : Type 0
unfolding decode_hex encode_hex are_bytes
HexRoundTrip = (t : Text) → are_bytes t ≡ true → decode_hex (encode_hex t) ≡ Some t

-- Theorem (proofs/Theorem.antt): the case of the digits does not matter.
unfoldable pub CaseInsensitive : Type 0
unfolding decode_hex
CaseInsensitive = (s : Text) → decode_hex (map to_upper s) ≡ decode_hex s
