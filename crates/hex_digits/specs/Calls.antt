-- Meaning: The result of `decode`, and the contents of the lent buffer afterwards.
use Rattle.std.specs.Prelude.{ℕ, Bool, true, false, cond, ◌&&◌, [], ◌∷◌, leb, length, Result, Ok, Err, Option, Some, None}
use Rattle.text.specs.Text.{Text, written_if_fits}
use Rattle.hex_digits.specs.Hex.{hex_value}
use Rattle.hex_digits.specs.declared.DecodeError.{DecodeError}
use Rattle.hex_digits.specs.declared.DecodeError.TheVariants.{Malformed, BufferTooShort}

-- The byte is a digit: it has a value.
abbrev pub has_value : Option ℕ → Bool
has_value None = false
has_value (Some v) = true

-- The value of a digit; 0 for any other byte.
abbrev pub value_or_zero : Option ℕ → ℕ
value_or_zero None = 0
value_or_zero (Some v) = v

-- Every byte of the text is a digit.
unfoldable pub all_digits : Text → Bool
unfolding hex_value
all_digits [] = true
all_digits (b ∷ s) = has_value (hex_value b) && all_digits s

-- The result of decoding to these bytes (none if the text is not well formed) with a lent buffer of capacity `room`.
abbrev pub decode_reply : Option Text → ℕ → Result ℕ DecodeError
decode_reply None room = (Err Malformed)
decode_reply (Some t) room = cond (leb (length t) room) (Ok (length t)) (Err BufferTooShort)

-- The buffer after decoding: the bytes over its beginning if they fit, otherwise unchanged.
abbrev pub decode_buffer : Option Text → Text → Text
decode_buffer None out = out
decode_buffer (Some t) out = written_if_fits 0 t out
