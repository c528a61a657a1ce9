-- Meaning: An input that arrives in blocks of any size. Between two blocks only the line so far and the state are kept.
use Rattle.std.specs.Prelude.{ℕ, suc, ◌≡◌, cond, eqb, leb, length}
use mathlib.Core.List.{List, [], ◌∷◌, ◌++◌, flatten}
use Rattle.text.specs.Text.{Text}
use Rattle.text.specs.Bytes.{newline}
use Rattle.line_reader.specs.Lines.{Line, text, overlong, lines_of, fold_answers}

-- The line with one more byte; a line that exceeds the maximum length is overlong to its end. Requirements: "an overlong one (read on to
-- its end)".
abbrev pub push_byte : ℕ → Line → ℕ → Line
push_byte most (text t) b = cond (leb (suc (length t)) most) (text (t ++ (b ∷ []))) overlong
push_byte most overlong b = overlong

-- The line with the bytes of a text appended.
unfoldable pub push_bytes : ℕ → Line → Text → Line
push_bytes most l [] = l
push_bytes most l (b ∷ s) = push_bytes most (push_byte most l b) s

module _ {S : Type 0} (most : ℕ) (next : S → Line → S) (reply : S → Line → Text) where
  -- The line so far and the state after one more byte. A newline ends the line: the state advances and an empty line begins.
  abbrev pub step_byte : Line × S → ℕ → Line × S
  step_byte c b = cond (eqb b newline) (text [], next c.1 c.0) (push_byte most c.0 b, c.1)

  -- The output for one byte: the reply to the line if the byte is a newline, otherwise nothing.
  abbrev pub answer_byte : Line × S → ℕ → Text
  answer_byte c b = cond (eqb b newline) (reply c.1 c.0) []

  -- The line so far and the state after the bytes of a block.
  unfoldable pub step_block : Line × S → Text → Line × S
  step_block c [] = c
  step_block c (b ∷ s) = step_block (step_byte c b) s

  -- The output for the bytes of a block.
  unfoldable pub answer_block : Line × S → Text → Text
  answer_block c [] = []
  answer_block c (b ∷ s) = answer_byte c b ++ answer_block (step_byte c b) s

  -- The output at the end of the input: the reply to a last line without a newline. Requirements: "the last line may lack its newline".
  abbrev pub answer_end : Line → S → Text
  answer_end (text []) st = []
  answer_end (text (b ∷ t)) st = reply st (text (b ∷ t))
  answer_end overlong st = reply st overlong

  -- The output for a list of blocks and then the end of the input.
  unfoldable pub answer_blocks : Line × S → List Text → Text
  unfolding step_block answer_block
  answer_blocks c [] = answer_end c.0 c.1
  answer_blocks c (b ∷ bs) = answer_block c b ++ answer_blocks (step_block c b) bs

-- Theorem (proofs/Theorem.antt): however the input is divided into blocks, the output consists of the replies to the lines of the whole
-- input.
unfoldable pub AnyBlocks : Type 1
unfolding answer_blocks lines_of fold_answers flatten
AnyBlocks =
    (S : Type 0) (most : ℕ) (next : S → Line → S) (reply : S → Line → Text) (st : S) (bs : List Text)
    → answer_blocks most next reply (text [], st) bs ≡ fold_answers next reply st (lines_of most (flatten bs))
