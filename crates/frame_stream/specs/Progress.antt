-- Meaning: The progress of the program `frames` from read to read and from write to write, as the contracts of its functions cite it. The theorems tie
-- it to the protocol's output (proofs/ProgressLaws.antt).
use Rattle.std.specs.Prelude.{◌≡◌, cond, ℕ, ◌-◌, ◌≤◌, leb, length, take, drop}
use mathlib.Core.List.{List, [], ◌∷◌, ◌++◌, flatten}
use Rattle.text.specs.Text.{Text}
use Rattle.text.specs.Bytes.{newline}
use Rattle.frames_spec.specs.Input.{max_digits, output, max_answer_line}
use Rattle.frames_memory.specs.declared.Counters.{Counters}
use Rattle.frames_memory.specs.Represents.{LargeEnough, initial_counters}
use Rattle.frame_stream.specs.Stream.{StreamState, stream_state, stream_start, process_block}
use Rattle.frame_stream.specs.StreamTheorems.{next_call, answers_in, run_blocks}

-- The state between two calls, from the length of the line so far, the counters and the lent buffers.
abbrev pub state_between : ℕ → Counters → Text → Text → List ℕ → Text → List ℕ → List ℕ → Text → StreamState
state_between len k line bytes places store slots table out = stream_state (stream_start len k 0) line bytes places store slots table out

-- The state in which the program starts: an empty line, all counters 0, and buffers that are large enough, whatever they contain.
pub record StartState (a : StreamState) : Type 0 where
  pub large : LargeEnough a.mem
  pub counters : a.mem.kept ≡ initial_counters
  pub len : a.len ≡ 0
  pub line : max_digits ≤ length a.line
  pub out : max_answer_line ≤ length a.out

-- The bytes of the block from index `at` to `end`: those that were read and are not consumed.
abbrev pub unconsumed : Text → ℕ → ℕ → Text
unconsumed block at end = take (end - at) (drop at block)

-- The blocks `read` were read, `rest` is what is left of the last one, and `written` is the text that was handed to the writes, one after
-- another. From the state a the program completes the protocol's output, whatever blocks bs follow.
pub record Progress (read : List Text) (written rest : Text) (a : StreamState) : Type 0 where
  pub completes : (bs : List Text) → written ++ run_blocks (rest ∷ bs) a ≡ output (flatten (read ++ bs))
  pub room : max_answer_line ≤ length a.out

-- The program has come to the state a with the bytes `rest` not consumed.
pub record Reached (rest : Text) (a : StreamState) : Type 0 where
  pub read : List Text
  pub written : Text
  pub progress : Progress read written rest a

-- The text is the replies of a call on the bytes that are not consumed, in a state that the program has reached.
pub record NextReplies (t : Text) : Type 0 where
  pub rest : Text
  pub state : StreamState
  pub reached : Reached rest state
  pub same : t ≡ answers_in (process_block rest (next_call state))

-- The state after a call on the bytes `rest`, ready for the next one.
unfoldable pub after_call : Text → StreamState → StreamState
unfolding process_block
after_call rest a = next_call (process_block rest a)

-- One step of the program, from the bytes `rest` not consumed and the state a to rest' and a'.
pub data NextStep (rest : Text) (a : StreamState) (rest' : Text) (a' : StreamState) : Type 0 where
  -- A call on the bytes; those that it did not consume are left.
  by_call : rest' ≡ drop (process_block rest (next_call a)).used rest → a' ≡ after_call rest (next_call a) → NextStep rest a rest' a'
  -- All is consumed, and a block is read, whatever it contains.
  by_read : rest ≡ [] → a' ≡ a → NextStep rest a rest' a'

-- The state after the end of the input: a last line without a newline is processed as if it had one.
unfoldable pub after_input : StreamState → StreamState
unfolding after_call
after_input a = cond (leb 1 a.len) (after_call (newline ∷ []) (next_call a)) a

-- The replies at the end of the input.
unfoldable pub last_replies : StreamState → Text
unfolding process_block
last_replies a = cond (leb 1 a.len) (answers_in (process_block (newline ∷ []) (next_call a))) []

-- The last step: all is consumed, the input has ended, and a' is the state after it.
abbrev pub LastStep : Text → StreamState → StreamState → Type 0
LastStep rest a a' = (rest ≡ []) × (a' ≡ after_input a)

-- The program has processed its whole input, and a is the state after it.
pub record Finished (a : StreamState) : Type 0 where
  pub rest : Text
  pub state : StreamState
  pub reached : Reached rest state
  pub last : LastStep rest state a

-- The theorems about the progress of the program.
pub record ProgressTheorems : Type 0 where
  -- At the start nothing is read and nothing written.
  pub starts : (a : StreamState) → StartState a → Progress [] [] [] a
  -- When all is consumed, the next block is read.
  pub reads : (read : List Text) (written : Text) (a : StreamState) → Progress read written [] a → (b : Text) → Progress (read ++ (b ∷ [])) written b a
  -- A call consumes some of the bytes; the caller writes its replies.
  pub calls : (read : List Text) (written rest : Text) (a : StreamState) → Progress read written rest a
      → Progress read (written ++ answers_in (process_block rest (next_call a))) (drop (process_block rest (next_call a)).used rest) (after_call rest (next_call a))
  -- When all is consumed and the input has ended, the texts written and the last replies are the protocol's output for the whole input.
  pub ends : (read : List Text) (written : Text) (a : StreamState) → Progress read written [] a → written ++ last_replies a ≡ output (flatten read)
