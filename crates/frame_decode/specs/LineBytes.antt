-- Method: The bytes that a line encodes in hexadecimal.
use Rattle.std.specs.Prelude.{ℕ, cond, leb, length, Option, Some, None}
use Rattle.text.specs.Text.{Text}
use Rattle.line_reader.specs.Lines.{Line, text, overlong}
use Rattle.hex_digits.specs.Hex.{decode_hex}

-- The bytes that a line encodes; none if it is overlong or not a line of digits.
unfoldable pub line_bytes : Line → Option Text
unfolding decode_hex
line_bytes (text t) = decode_hex t
line_bytes overlong = None

-- The number of decoded bytes in a buffer of capacity `room`; 0 if there are none or they do not fit.
abbrev pub decoded_count : Option Text → ℕ → ℕ
decoded_count None room = 0
decoded_count (Some t) room = cond (leb (length t) room) (length t) 0
