-- Method: The reply to one line, appended to the replies in the lent output buffer.
use Rattle.std.specs.Prelude.{◌≡◌, ℕ, ◌+◌, ◌≤◌, Bool, cond, [], ◌∷◌, ◌++◌, leb, length, take, Result, Ok, Err, Option}
use Rattle.text.specs.Text.{Text, written_at}
use Rattle.text.specs.Bytes.{newline}
use Rattle.refusal.specs.Refusal.{refusal_number}
use Rattle.line_reader.specs.Lines.{Line}
use Rattle.hex_digits.specs.Hex.{encode_hex}
use Rattle.frames_spec.specs.Frame.{Frame}
use Rattle.frames_spec.specs.Run.{next_state, answer_frame}
use Rattle.frames_spec.specs.Input.{parse_line, next_line, answer_line, max_answer_line}
use Rattle.frames_memory.specs.Memory.{FramesMemory, step_frame_in}
use Rattle.refusal.specs.declared.Refusal.{Refusal}

-- Whether the output buffer has space for any reply after `at` bytes.
abbrev pub room_at : ℕ → Text → Bool
room_at at out = leb (at + max_answer_line) (length out)

-- The line that encodes bytes in capital digits, with its newline.
unfoldable pub line_text : Text → Text
unfolding encode_hex
line_text b = encode_hex b ++ newline ∷ []

-- The reply line of a reply whose payload is at the beginning of a buffer.
unfoldable pub reply_line : ℕ → Result ℕ Refusal → Text → Text
unfolding line_text
reply_line head (Ok n) payload = line_text (head ∷ 0 ∷ take n payload)
reply_line head (Err x) payload = line_text (head ∷ refusal_number x ∷ [])

-- The payload of a reply has at most `room` bytes.
unfoldable pub PayloadFits : Result ℕ Refusal → ℕ → Type 0
PayloadFits (Ok n) room = n ≤ room
PayloadFits (Err x) room = 0 ≤ room

-- The text t was written at offset `at`, and ends at `end`.
unfoldable pub WroteAt : Text → ℕ → ℕ → Text → Text → Type 0
WroteAt t at end before after = (end ≡ at + length t) × (after ≡ written_at at t before)

-- The memory after a frame, or after a bad frame, and the reply line written.
unfoldable pub AnswersFrame : Option Frame → FramesMemory → FramesMemory → ℕ → ℕ → Text → Text → Type 0
unfolding step_frame_in WroteAt line_text
AnswersFrame o m m' at end before after = (m' ≡ next_state step_frame_in m o) × WroteAt (line_text (answer_frame step_frame_in m o)) at end before after

-- The memory after a line; unchanged if there is no space for the longest reply after `at` bytes.
unfoldable pub memory_after_line : ℕ → Text → FramesMemory → Line → FramesMemory
unfolding parse_line step_frame_in
memory_after_line at out m l = cond (room_at at out) (next_line step_frame_in m l) m

-- The output buffer after a line; unchanged if there is no space for the longest reply.
unfoldable pub out_after_line : ℕ → Text → FramesMemory → Line → Text
unfolding answer_line
out_after_line at out m l = cond (room_at at out) (written_at at (answer_line step_frame_in m l) out) out

-- The end of the replies after a line; unchanged if there is no space for the longest reply.
unfoldable pub end_after_line : ℕ → Text → FramesMemory → Line → ℕ
unfolding answer_line
end_after_line at out m l = cond (room_at at out) (at + length (answer_line step_frame_in m l)) at
