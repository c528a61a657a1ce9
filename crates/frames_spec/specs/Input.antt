-- Meaning: A whole input: its lines, the frames parsed from them, and the output. Nothing here depends on how the input is split into blocks.
use Rattle.std.specs.Prelude.{◌≡◌, false, ℕ, ◌+◌, Option, Some, None}
use mathlib.Core.List.{List, [], ◌∷◌, ◌++◌, map}
use Rattle.text.specs.Text.{Text}
use Rattle.text.specs.Bytes.{newline}
use Rattle.path_grammar.specs.Own.{has_variant_selection}
use Rattle.line_reader.specs.Lines.{Line, text, overlong, lines_of, fold_answers}
use Rattle.hex_digits.specs.Hex.{decode_hex, encode_hex}
use Rattle.frames_spec.specs.Frame.{Frame, out, home, decode_frame}
use Rattle.frames_spec.specs.State.{State, Transition, initial_state, success, step_frame}
use Rattle.frames_spec.specs.Run.{next_state, answer_frame, state_after_frames}

-- Requirements: "a line of at most 4,096 digits".
abbrev pub max_digits : ℕ
max_digits = 4096

-- The frame of decoded bytes.
abbrev pub frame_of_bytes : Option Text → Option Frame
frame_of_bytes None = None
frame_of_bytes (Some b) = decode_frame b

-- The frame parsed from a line. Requirements: "one frame of hexadecimal digits (either case) a line"; "A bad frame gives FF09, an empty
-- line and an overlong one .. too".
unfoldable pub parse_line : Line → Option Frame
unfolding decode_hex decode_frame
parse_line (text t) = frame_of_bytes (decode_hex t)
parse_line overlong = None

-- Generic in the type of state and in the step that a frame takes on it.
module _ {S : Type 0} (step : S → Frame → Transition S) where
  -- The state after a line.
  abbrev pub next_line : S → Line → S
  next_line st l = next_state step st (parse_line l)

  -- The reply line with its newline. Requirements: "The answer line, in capitals".
  unfoldable pub answer_line : S → Line → Text
  unfolding parse_line encode_hex
  answer_line st l = encode_hex (answer_frame step st (parse_line l)) ++ newline ∷ []

-- The length of the longest reply line: two bytes and a path of 255, two digits each, and the newline.
abbrev pub max_answer_line : ℕ
max_answer_line = 515

-- The output of the program for a list of lines.
unfoldable pub answers_to : List Line → Text
unfolding fold_answers parse_line answer_line step_frame
answers_to ls = fold_answers (next_line step_frame) (answer_line step_frame) initial_state ls

-- The output of the program for an input.
unfoldable pub output : Text → Text
unfolding lines_of answers_to
output input = answers_to (lines_of max_digits input)

-- The state after a list of lines.
unfoldable pub state_after : List Line → State
unfolding state_after_frames parse_line
state_after ls = state_after_frames initial_state (map parse_line ls)

-- The reply line with a kind, the answer byte 00 and a payload.
abbrev pub accepted_line : ℕ → Text → Text
accepted_line kind q = encode_hex (kind ∷ 0 ∷ q) ++ newline ∷ []

-- The theorems about the lines of every input (proofs/InputLaws.antt).
pub record InputTheorems : Type 0 where
  -- The reply to a line is appended to the replies to the lines before it, and is computed in the state after them.
  pub line_more : (ls : List Line) (l : Line) → answers_to (ls ++ l ∷ []) ≡ answers_to ls ++ answer_line step_frame (state_after ls) l
  -- If 05 with a path without selections is answered 00 with q, and the next line is 06 with q, that line is answered 00 with the path.
  pub comes_home : (ls : List Line) (l k : Line) (p q : Text) → parse_line l ≡ Some (out p) → has_variant_selection p ≡ false
      → (step_frame (state_after ls) (out p)).answer ≡ success q → parse_line k ≡ Some (home q)
      → (answer_line step_frame (state_after ls) l ≡ accepted_line (5 + 128) q) × (answer_line step_frame (state_after (ls ++ l ∷ [])) k ≡ accepted_line (6 + 128) p)
