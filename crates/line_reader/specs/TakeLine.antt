-- Method: One call of `take_line`: it consumes the bytes of a block up to the end of one line. The line so far is in the lent line buffer; its
-- length is a separate number.
use Rattle.std.specs.Prelude.{ℕ, suc, ◌+◌, true, false, cond, [], ◌∷◌, eqb, leb, ltb, length, take}
use Rattle.text.specs.Text.{Text, written_if_fits}
use Rattle.text.specs.Bytes.{newline}
use Rattle.line_reader.specs.Lines.{line_capacity}
use Rattle.line_reader.specs.declared.Taken.{Taken}

-- The number of bytes before the first newline; the length of the text if it has none.
unfoldable pub newline_index : Text → ℕ
newline_index [] = 0
newline_index (b ∷ s) = cond (eqb b newline) 0 (suc (newline_index s))

-- The length of a line of n bytes after k more; every overlong line has the length `most + 1`.
unfoldable pub line_length_after : ℕ → ℕ → ℕ → ℕ
line_length_after most n k = cond (leb (n + k) most) (n + k) (most + 1)

-- The line buffer after the text s is appended to a line of n bytes; bytes that make the line overlong are not stored.
unfoldable pub line_buffer_after : ℕ → ℕ → Text → Text → Text
unfolding written_if_fits
line_buffer_after most n s mem = cond (leb (n + length s) most) (written_if_fits n s mem) mem

-- The result of `take_line`: it consumes the bytes up to and including the first newline, or the whole block if there is none.
unfoldable pub take_line_reply : Text → ℕ → ℕ → Taken
unfolding newline_index line_capacity line_length_after
take_line_reply block n room =
    cond (ltb (newline_index block) (length block))
    (record { used = newline_index block + 1; done = true; len = line_length_after (line_capacity room) n (newline_index block) })
    (record { used = length block; done = false; len = line_length_after (line_capacity room) n (newline_index block) })

-- The line buffer after `take_line`.
unfoldable pub take_line_buffer : Text → ℕ → Text → Text
unfolding newline_index line_capacity line_buffer_after
take_line_buffer block n mem = line_buffer_after (line_capacity (length mem)) n (take (newline_index block) block) mem
