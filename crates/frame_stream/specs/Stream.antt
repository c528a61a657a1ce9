-- Method: Processing a block of input: step by step a line to its end, or the part of it that the block holds; every byte and number after it.
use Rattle.std.specs.Prelude.{ℕ, zero, suc, ◌+◌, Bool, cond, ◌&&◌, List, ltb, length, drop}
use Rattle.text.specs.Text.{Text, written_at}
use Rattle.line_reader.specs.Lines.{Line, line_in_buffer}
use Rattle.line_reader.specs.TakeLine.{take_line_reply, take_line_buffer}
use Rattle.line_reader.specs.declared.Taken.{Taken}
use Rattle.frames_spec.specs.Input.{next_line, answer_line}
use Rattle.frames_memory.specs.declared.Counters.{Counters}
use Rattle.frames_memory.specs.Memory.{FramesMemory, frames_memory, step_frame_in}
use Rattle.frame_answer.specs.Answer.{room_at}
use Rattle.frame_stream.specs.declared.StreamReply.{StreamReply}

-- The state between two steps.
pub record StreamState : Type 0 where
  -- The number of bytes of the block consumed.
  pub used : ℕ
  -- The line so far: its length, and its buffer.
  pub len : ℕ
  pub line : Text
  pub mem : FramesMemory
  -- The end of the replies, and the output buffer.
  pub end : ℕ
  pub out : Text

-- The state from the code's result and the lent buffers.
abbrev pub stream_state : StreamReply → Text → Text → List ℕ → Text → List ℕ → List ℕ → Text → StreamState
stream_state r line bytes places store slots table out =
    record { used = r.used; len = r.len; line = line; mem = frames_memory r.kept bytes places store slots table; end = r.end; out = out }

-- The result before the first step on a block.
abbrev pub stream_start : ℕ → Counters → ℕ → StreamReply
stream_start len k end = record { used = 0; len = len; kept = k; end = end }

-- The state after a line that ends: its reply is appended, and a new line begins.
abbrev pub line_ends : ℕ → Text → Line → StreamState → StreamState
line_ends n line l a = record {
  used = a.used + n;
  len = 0;
  line = line;
  mem = next_line step_frame_in a.mem l;
  end = a.end + length (answer_line step_frame_in a.mem l);
  out = written_at a.end (answer_line step_frame_in a.mem l) a.out;
}

-- The state after the block ends within a line.
abbrev pub line_continues : ℕ → Text → ℕ → StreamState → StreamState
line_continues n line len a = record { used = a.used + n; len = len; line = line; mem = a.mem; end = a.end; out = a.out }

-- The state after the bytes of a line were taken from the block.
abbrev pub after_taken : Taken → Text → StreamState → StreamState
after_taken t line a = cond t.done (line_ends t.used line (line_in_buffer t.len line) a) (line_continues t.used line t.len a)

-- One step on the remainder of the block.
unfoldable pub stream_step : Text → StreamState → StreamState
unfolding take_line_reply take_line_buffer line_in_buffer answer_line step_frame_in
stream_step rest a = after_taken (take_line_reply rest a.len (length a.line)) (take_line_buffer rest a.len a.line) a

-- Whether a byte is left and there is space for the longest reply.
abbrev pub can_step : Text → StreamState → Bool
can_step block a = ltb a.used (length block) && room_at a.end a.out

-- At most n steps.
unfoldable pub stream_steps : ℕ → Text → StreamState → StreamState
unfolding stream_step
stream_steps zero block a = a
stream_steps (suc n) block a = cond (can_step block a) (stream_steps n block (stream_step (drop a.used block) a)) a

-- All steps: each consumes a byte, so there are at most as many as bytes (specs/StreamTheorems.antt: never-short).
unfoldable pub process_block : Text → StreamState → StreamState
unfolding stream_steps
process_block block a = stream_steps (length block) block a
