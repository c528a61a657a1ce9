-- Meaning: The theorems about `process_block` (proofs/Theorem.antt): it implements the byte state machine of crates/line_reader on the lent buffers, so the output
-- is that of the protocol however the input is split into blocks.
use Rattle.std.specs.Prelude.{◌≡◌, cond, ℕ, zero, suc, ◌+◌, ◌≤◌, ◌<◌, leb, length, take, drop}
use mathlib.Core.List.{List, [], ◌∷◌, ◌++◌, flatten}
use Rattle.text.specs.Text.{Text, written}
use Rattle.text.specs.Bytes.{newline}
use Rattle.line_reader.specs.Lines.{Line, text, line_capacity, line_in_buffer}
use Rattle.line_reader.specs.Blocks.{step_block, answer_block, answer_blocks}
use Rattle.frames_spec.specs.Input.{max_digits, next_line, answer_line, output, max_answer_line}
use Rattle.frames_memory.specs.Memory.{FramesMemory, step_frame_in}
use Rattle.frames_memory.specs.Represents.{LargeEnough, initial_counters}
use Rattle.frame_stream.specs.Stream.{StreamState, stream_step, can_step, process_block}

-- The state of the byte machine.
abbrev pub byte_machine : StreamState → Line × FramesMemory
byte_machine a = (line_in_buffer a.len a.line, a.mem)

-- The limit on the bytes of a line, from the size of the line buffer.
abbrev pub stream_line_capacity : StreamState → ℕ
stream_line_capacity a = line_capacity (length a.line)

-- The state of the machine after the bytes s.
abbrev pub step_block_in : StreamState → Text → Line × FramesMemory
step_block_in a s = step_block (stream_line_capacity a) (next_line step_frame_in) (answer_line step_frame_in) (byte_machine a) s

-- The replies to the lines that end in the bytes s.
abbrev pub answer_block_in : StreamState → Text → Text
answer_block_in a s = answer_block (stream_line_capacity a) (next_line step_frame_in) (answer_line step_frame_in) (byte_machine a) s

-- The result of one call on a block.
pub record ProcessesBlock (block : Text) (a a' : StreamState) : Type 0 where
  -- The line so far and the memory are those after the bytes consumed.
  pub state : step_block_in a (take a'.used block) ≡ byte_machine a'
  -- The replies to these bytes are at the beginning of the output buffer; the remainder is unchanged.
  pub wrote : a'.out ≡ written (answer_block_in a (take a'.used block)) a.out
  pub ends : a'.end ≡ length (answer_block_in a (take a'.used block))
  pub inside : a'.used ≤ length block
  pub fits : a'.end ≤ length a.out
  -- Bytes remain only if there was no space for one more reply.
  pub further : a'.used < length block → length a.out < a'.end + max_answer_line
  -- The buffers keep their lengths.
  pub line : length a'.line ≡ length a.line
  pub room : length a'.out ≡ length a.out

-- The start of the next call: no byte of its block is consumed, and the output buffer is empty.
abbrev pub next_call : StreamState → StreamState
next_call a = record { used = 0; len = a.len; line = a.line; mem = a.mem; end = 0; out = a.out }

-- The state after n calls on a block, each with the remainder that the one before left.
unfoldable pub after_calls : ℕ → Text → StreamState → StreamState
unfolding process_block
after_calls zero block a = a
after_calls (suc n) block a = after_calls n (drop (process_block block (next_call a)).used block) (process_block block (next_call a))

-- The replies of one call, which the caller writes out.
abbrev pub answers_in : StreamState → Text
answers_in a = take a.end a.out

-- The replies of n calls on a block, each with the remainder that the one before left.
unfoldable pub written_out : ℕ → Text → StreamState → Text
unfolding process_block
written_out zero block a = []
written_out (suc n) block a = answers_in (process_block block (next_call a)) ++ written_out n (drop (process_block block (next_call a)).used block) (process_block block (next_call a))

-- The output for a list of blocks, each processed until it is consumed, and for the end of the input: "the last line may lack its newline".
unfoldable pub run_blocks : List Text → StreamState → Text
unfolding after_calls written_out
run_blocks [] a = cond (leb 1 a.len) (written_out 1 (newline ∷ []) a) []
run_blocks (b ∷ bs) a = written_out (length b) b a ++ run_blocks bs (after_calls (length b) b a)

-- The theorems about processing blocks of input.
pub record StreamTheorems : Type 0 where
  -- It continues while a byte is left and there is space for a reply: the bound on the number of steps never stops it.
  pub never_short : (block : Text) (a : StreamState) → process_block block a ≡ cond (can_step block a) (process_block block (stream_step (drop a.used block) a)) a
  -- A call runs the machine over the bytes it consumed.
  pub feeds : (block : Text) (a : StreamState) → ProcessesBlock block (next_call a) (process_block block (next_call a))
  -- Calls until a block is consumed: the machine has processed the whole block, and the replies are its output.
  pub calls : (block : Text) (a : StreamState) → max_answer_line ≤ length a.out
      → (step_block_in a block ≡ byte_machine (after_calls (length block) block a)) × (answer_block_in a block ≡ written_out (length block) block a)
  -- However an input is split into blocks, the output of the machine is the protocol's output for the whole.
  pub any_blocks_answered : (m : FramesMemory) → LargeEnough m → m.kept ≡ initial_counters → (bs : List Text)
      → answer_blocks max_digits (next_line step_frame_in) (answer_line step_frame_in) (text [], m) bs ≡ output (flatten bs)
  -- So is the output of the calls, starting with an empty line, a line buffer of at least 4,096 bytes and an output buffer with space for
  -- one reply.
  pub runs : (a : StreamState) → LargeEnough a.mem → a.mem.kept ≡ initial_counters → a.len ≡ 0 → max_digits ≤ length a.line → max_answer_line ≤ length a.out
      → (bs : List Text) → run_blocks bs a ≡ output (flatten bs)
