-- Meaning: The lines of an input and the replies to them, independent of what a line contains. The newline is byte 10.
use Rattle.std.specs.Prelude.{ℕ, cond, List, [], ◌∷◌, ◌++◌, map, eqb, leb, length, take}
use Rattle.text.specs.Text.{Text}
use Rattle.text.specs.Bytes.{newline}

-- A line: its bytes, or overlong.
pub data Line : Type 0 where
  text : Text → Line
  overlong : Line

-- The line with these bytes, where `most` is the maximum length. Requirements: "a line of at most 4,096 digits".
abbrev pub line_of : ℕ → Text → Line
line_of most t = cond (leb (length t) most) (text t) overlong

-- The text after the last newline is a line unless it is empty. So an empty input has no line, and an input that ends in a newline has no
-- line after it. Requirements: "the last line may lack its newline".
abbrev pub last_line : Text → List Text
last_line [] = []
last_line (b ∷ t) = (b ∷ t) ∷ []

-- The texts that the newlines of an input delimit; t is the text read since the last newline.
unfoldable pub split_lines : Text → Text → List Text
split_lines t [] = last_line t
split_lines t (b ∷ s) = cond (eqb b newline) (t ∷ split_lines [] s) (split_lines (t ++ (b ∷ [])) s)

-- The lines of a whole input, where `most` is the maximum length of a line.
unfoldable pub lines_of : ℕ → Text → List Line
unfolding split_lines
lines_of most s = map (line_of most) (split_lines [] s)

-- The output for a list of lines: the `reply` to each line, in the state that `next` computes from the lines before it.
unfoldable pub fold_answers : {S : Type 0} → (S → Line → S) → (S → Line → Text) → S → List Line → Text
fold_answers next reply st [] = []
fold_answers next reply st (l ∷ ls) = reply st l ++ fold_answers next reply (next st l) ls

-- The maximum line length for a line buffer of capacity `room`. Requirements: "a line of at most 4,096 digits".
unfoldable pub line_capacity : ℕ → ℕ
line_capacity room = cond (leb room 4096) room 4096

-- The line in the first n bytes of the buffer; overlong if n exceeds the maximum line length.
unfoldable pub line_in_buffer : ℕ → Text → Line
unfolding line_capacity
line_in_buffer n mem = cond (leb n (line_capacity (length mem))) (text (take n mem)) overlong
