-- Meaning: What the program `frames` reads and writes, step by step and as a whole: `left` are the bytes that the reader has left and `held` those
-- that the writer holds, where they are known.
use Rattle.std.specs.Prelude.{◌≡◌, ℕ, Option, IfSome, [], take, drop}
use Rattle.std.specs.Io.KnownBytes.{Keeps, Appends, Consumes, IsAtEnd}
use Rattle.text.specs.Text.{Text}
use Rattle.frames_spec.specs.Input.{output}
use Rattle.frame_stream.specs.Stream.{StreamState, process_block}
use Rattle.frame_stream.specs.StreamTheorems.{next_call, answers_in}
use Rattle.frame_stream.specs.Progress.{after_call, last_replies}

-- The beginning of the text was written.
abbrev pub BeginningWritten : Option Text → Option Text → Text → Type 0
BeginningWritten held held' t = (n : ℕ) × Appends held held' (take n t)

-- A step after which the program goes on, from the bytes `rest` not consumed and the state a to rest' and a'.
pub data NextMove (rest : Text) (a : StreamState) (left held : Option Text) (rest' : Text) (a' : StreamState) (left' held' : Option Text) : Type 0 where
  -- A call on the bytes, whose replies are written.
  call_moves : rest' ≡ drop (process_block rest (next_call a)).used rest → a' ≡ after_call rest (next_call a) → Keeps left left'
      → Appends held held' (answers_in (process_block rest (next_call a))) → NextMove rest a left held rest' a' left' held'
  -- All is consumed, and a block is read.
  read_moves : rest ≡ [] → a' ≡ a → Consumes left left' rest' → Keeps held held' → NextMove rest a left held rest' a' left' held'

-- The last step: all is consumed, the reader is at its end, and the last replies are written.
pub record LastMove (rest : Text) (a : StreamState) (left held left' held' : Option Text) : Type 0 where
  pub consumed : rest ≡ []
  pub read : Keeps left left'
  pub ended : IsAtEnd left'
  pub wrote : Appends held held' (last_replies a)

-- A step after which the program ends: the beginning of its replies was written, if it has any.
pub data FailedMove (rest : Text) (a : StreamState) (left held left' held' : Option Text) : Type 0 where
  -- A call on the bytes, of whose replies the beginning was written.
  call_ends : Keeps left left' → BeginningWritten held held' (answers_in (process_block rest (next_call a))) → FailedMove rest a left held left' held'
  -- A read that failed.
  read_ends : Keeps left left' → Keeps held held' → FailedMove rest a left held left' held'
  -- The end of the input, where the beginning of the last replies was written.
  input_ends : rest ≡ [] → Keeps left left' → IsAtEnd left' → BeginningWritten held held' (last_replies a) → FailedMove rest a left held left' held'

-- The protocol's output for the bytes that the reader had left was written.
abbrev pub OutputWritten : Option Text → Option Text → Option Text → Type 0
OutputWritten left held held' = IfSome left (λ input. Appends held held' (output input))

-- The beginning of it was written.
abbrev pub OutputBegun : Option Text → Option Text → Option Text → Type 0
OutputBegun left held held' = IfSome left (λ input. BeginningWritten held held' (output input))
