-- Meaning: One line of `frames` as a call across the C interface: the counters kept between two lines are five plain numbers in a lent buffer. The
-- caller may have altered them and the memory beside them, so what a line uses of them is validated.
use Rattle.std.specs.Prelude.{ℕ, ◌+◌, Bool, cond, ◌&&◌, List, [], ◌∷◌, ◌≡◌, leb, length, get_or, Result, Ok, Err, Option, Some, None, ⊤}
use Rattle.text.specs.Text.{Text, written}
use Rattle.refusal.specs.declared.Refusal.{Refusal}
use Rattle.refusal.specs.declared.Refusal.TheVariants.{NoRoom}
use Rattle.refusal.specs.Refusal.{refusal_number, refused_or}
use Rattle.line_reader.specs.Lines.{Line, line_in_buffer}
use Rattle.frames_spec.specs.Frame.{Frame, frame}
use Rattle.frames_spec.specs.Input.{parse_line, next_line, answer_line, max_answer_line}
use Rattle.frames_memory.specs.declared.Counters.{Counters}
use Rattle.frames_memory.specs.Memory.{FramesMemory, frames_memory, step_frame_in}
use Rattle.frames_validate.specs.Checked.{validate_use, step_frame_checked}
use Rattle.frame_answer.specs.Answer.{line_text}
use Rattle.ffi_line.specs.declared.LineCheck.{LineCheck}
use Rattle.ffi_line.specs.declared.LineCheck.TheVariants.{Short, NoSpace, Open}

-- The counters from five numbers: pairs and bytes of the open list, legs and their bytes before redundant pairs are dropped, 05 frames
-- answered 00.
abbrev pub counters_of : List ℕ → Counters
counters_of n = record {
  opened = record { pairs = get_or n 0 0; bytes = get_or n 1 0 };
  legs = record { count = get_or n 2 0; bytes = get_or n 3 0 };
  outs = get_or n 4 0;
}

-- The five numbers of the counters.
abbrev pub counter_numbers : Counters → List ℕ
counter_numbers k = k.opened.pairs ∷ k.opened.bytes ∷ k.legs.count ∷ k.legs.bytes ∷ k.outs ∷ []

-- The memory that a caller lends: the counters from their numbers, and the buffers.
abbrev pub lent_memory : List ℕ → Text → List ℕ → Text → List ℕ → List ℕ → FramesMemory
lent_memory kept bytes places store slots table = frames_memory (counters_of kept) bytes places store slots table

-- The line given as a whole text; one of more than 4,096 bytes is overlong.
unfoldable pub whole_line : Text → Line
unfolding line_in_buffer
whole_line t = line_in_buffer (length t) t

-- Question 5 for a well-formed frame: five numbers, and space for the longest reply line.
abbrev pub has_line_room : List ℕ → ℕ → Bool
has_line_room kept room = leb 5 (length kept) && leb max_answer_line room

-- Question 5. Question 9 is put first: a bad frame is answered FF09 and a newline, and needs only the five bytes for that.
unfoldable pub validate_line_call : Option Frame → List ℕ → Text → Result ⊤ Refusal
validate_line_call None kept out = cond (leb 5 (length out)) (Ok tt) (Err NoRoom)
validate_line_call (Some f) kept out = cond (has_line_room kept (length out)) (Ok tt) (Err NoRoom)

-- The reply of the call: the length of the reply line.
unfoldable pub line_reply : Line → List ℕ → FramesMemory → Text → Result ℕ Refusal
unfolding parse_line validate_line_call answer_line
line_reply l kept m out = refused_or (validate_line_call (parse_line l) kept out) Err (Ok (length (answer_line step_frame_checked m l)))

-- The memory after the call; unchanged if it was refused.
unfoldable pub line_memory : Line → List ℕ → FramesMemory → Text → FramesMemory
unfolding parse_line validate_line_call step_frame_checked
line_memory l kept m out = refused_or (validate_line_call (parse_line l) kept out) (λ (x : Refusal). m) (next_line step_frame_checked m l)

-- The output buffer after the call: the reply line over its beginning; unchanged if it was refused.
unfoldable pub line_out : Line → List ℕ → FramesMemory → Text → Text
unfolding parse_line validate_line_call answer_line
line_out l kept m out = refused_or (validate_line_call (parse_line l) kept out) (λ (x : Refusal). out) (written (answer_line step_frame_checked m l) out)

-- The number buffer after a frame that leaves these counters: the five numbers over its beginning; unchanged by a bad frame.
abbrev pub counters_after : Option Frame → Counters → List ℕ → List ℕ
counters_after None k kept = kept
counters_after (Some f) k kept = written (counter_numbers k) kept

-- The number buffer after the call; unchanged if it was refused.
unfoldable pub line_counters : Line → List ℕ → FramesMemory → Text → List ℕ
unfolding parse_line validate_line_call step_frame_checked
line_counters l kept m out =
    refused_or (validate_line_call (parse_line l) kept out) (λ (x : Refusal). kept) (counters_after (parse_line l) (next_line step_frame_checked m l).kept kept)

-- The result of the questions put before a line is processed, for an output buffer of capacity `room`: the reply line has only two bytes (FF09,
-- or a refusal), there is no space, or the line is processed.
unfoldable pub line_check : Option Frame → List ℕ → FramesMemory → ℕ → LineCheck
unfolding validate_use
line_check None kept m room = Short 255 9
line_check (Some (frame k a)) kept m room =
    cond (has_line_room kept room) (refused_or (validate_use m a) (λ (x : Refusal). Short (k + 128) (refusal_number x)) Open) NoSpace

-- The reply of writing a line of two bytes: its length is 5.
abbrev pub short_reply : Text → Result ℕ Refusal
short_reply out = cond (leb 5 (length out)) (Ok 5) (Err NoRoom)

-- The output buffer after writing a line of two bytes.
unfoldable pub short_out : ℕ → ℕ → Text → Text
unfolding line_text
short_out head answer out = cond (leb 5 (length out)) (written (line_text (head ∷ answer ∷ [])) out) out

-- The code processed the line without validating the memory: the length of the reply line, the numbers and the output buffer are those of
-- the step.
pub record ProcessesLine (l : Line) (kept : List ℕ) (m : FramesMemory) (out : Text) (n : ℕ) (kept' : List ℕ) (out' : Text) : Type 0 where
  pub size : n ≡ length (answer_line step_frame_in m l)
  pub counters : kept' ≡ written (counter_numbers (next_line step_frame_in m l).kept) kept
  pub reply : out' ≡ written (answer_line step_frame_in m l) out
