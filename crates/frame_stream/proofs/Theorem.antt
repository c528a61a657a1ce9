-- The proofs of the theorems of specs/StreamTheorems.antt: calls until each block is consumed produce the protocol's output.
use mathlib.Core.Path.{◌≡◌, refl, sym, ap, ◌∙◌}
use mathlib.Core.Bool.{Bool, true, false, cond}
use mathlib.Core.List.{List, [], ◌∷◌, ◌++◌, flatten}
use Prim.Native.Nat.{ℕ, zero, suc, ◌≤◌, ◌<◌}
use native.Mathlib.Omega.{arith}
use lib.Dec.{leb}
use lib.ListN.{length, take, drop, length-drop, take-append-drop}
use borrow.Author.Tests.{leb-true}
use Rattle.text.specs.Text.{Text}
use Rattle.text.proofs.WriteLaws.{read_back}
use Rattle.line_reader.specs.Lines.{Line, text, line_capacity, line_in_buffer}
use Rattle.line_reader.specs.Blocks.{step_block, answer_block, answer_blocks, AnyBlocks}
use Rattle.line_reader.proofs.BlockLaws.{end_newline}
use Rattle.line_reader.proofs.Theorem.{any_blocks}
use Rattle.frames_spec.specs.Input.{max_digits, next_line, answer_line, output, max_answer_line}
use Rattle.frames_memory.specs.Memory.{FramesMemory, step_frame_in}
use Rattle.frames_memory.specs.Represents.{LargeEnough, initial_counters}
use Rattle.frames_memory.proofs.Theorem.{memory_theorems as memory-claims}
use Rattle.frame_stream.specs.Stream.{StreamState, process_block}
use Rattle.frame_stream.specs.StreamTheorems.{byte_machine, stream_line_capacity, step_block_in, answer_block_in, ProcessesBlock, next_call, after_calls, answers_in, written_out, run_blocks, StreamTheorems}
use Rattle.frame_stream.proofs.StepBranches.{line_new}
use Rattle.frame_stream.proofs.StreamLaws.{never_short, feeds, stepped_both, answered_both}

module _ (block : Text) (a a' : StreamState) (f : ProcessesBlock block a a') where
  -- The caller writes out the replies.
  processes_answered : answers_in a' ≡ answer_block_in a (take a'.used block)
  processes_answered =
      ap (λ (n : ℕ). take n a'.out) f.ends ∙ ap (take (length (answer_block_in a (take a'.used block)))) f.wrote
      ∙ read_back (answer_block_in a (take a'.used block)) a.out

  -- A call with space for one reply consumes at least one byte.
  processes_on : 0 < length block → max_answer_line ≤ length a.out → 0 < a'.used
  unfolding answer_block
  processes_on b h = go a'.used refl
    where
      go : (n : ℕ) → a'.used ≡ n → 0 < n
      go zero e =
          let s : a'.end ≡ 0 = f.ends ∙ ap (λ (n : ℕ). length (answer_block_in a (take n block))) e in
          absurd (omega (arith, f.further (omega (arith, e)), s))
      go (suc n) e = omega arith

  -- The remainder of the block is processed as a block of its own.
  both : take a'.used block ++ drop a'.used block ≡ block
  both = take-append-drop a'.used block

  pub stepped_then : step_block_in a block ≡ step_block_in a' (drop a'.used block)
  stepped_then = ap (step_block_in a) (sym both) ∙ stepped_both a a' (take a'.used block) (drop a'.used block) f.line f.state

  pub answered_then : answer_block_in a block ≡ answers_in a' ++ answer_block_in a' (drop a'.used block)
  answered_then =
      ap (answer_block_in a) (sym both) ∙ answered_both a a' (take a'.used block) (drop a'.used block) f.line f.state
      ∙ ap (λ (s : Text). s ++ answer_block_in a' (drop a'.used block)) (sym processes_answered)

-- Calls until the block is consumed.
record Called (n : ℕ) (block : Text) (a : StreamState) : Type 0 where
  state : step_block_in a block ≡ byte_machine (after_calls n block a)
  wrote : answer_block_in a block ≡ written_out n block a
  line : length (after_calls n block a).line ≡ length a.line
  room : length (after_calls n block a).out ≡ length a.out

module _ (n : ℕ) (block : Text) (a : StreamState) (h : length block ≤ suc n) (r : max_answer_line ≤ length a.out) where
  abbrev after_one : StreamState
  after_one = process_block block (next_call a)

  abbrev rest : Text
  rest = drop after_one.used block

  less : length rest ≤ n
  less = go (length block) refl
    where
      go : (k : ℕ) → length block ≡ k → length rest ≤ n
      go zero e = omega (arith, length-drop after_one.used block, e)
      go (suc k) e = omega (arith, length-drop after_one.used block, processes_on block (next_call a) after_one (feeds block a) (omega (arith, e)) r)

  still_room : max_answer_line ≤ length after_one.out
  still_room = omega (arith, (feeds block a).room, r)

  called_on : Called n rest after_one → Called (suc n) block a
  unfolding after_calls written_out
  called_on c =
      let f = feeds block a in
      record {
        state = stepped_then block (next_call a) after_one f ∙ c.state;
        wrote = answered_then block (next_call a) after_one f ∙ ap (λ (s : Text). answers_in after_one ++ s) c.wrote;
        line = c.line ∙ f.line;
        room = c.room ∙ f.room;
      }

called : (n : ℕ) (block : Text) (a : StreamState) → length block ≤ n → max_answer_line ≤ length a.out → Called n block a
unfolding after_calls written_out step_block answer_block
called zero [] a h r = record { state = refl; wrote = refl; line = refl; room = refl }
called zero (b ∷ s) a h r = absurd (omega arith)
called (suc n) block a h r = called_on n block a h r (called n (rest n block a h r) (after_one n block a h r) (less n block a h r) (still_room n block a h r))

-- All blocks, and the end of the input.
pub runs_blocks : (bs : List Text) (a : StreamState) → max_answer_line ≤ length a.out
    → run_blocks bs a ≡ answer_blocks (stream_line_capacity a) (next_line step_frame_in) (answer_line step_frame_in) (byte_machine a) bs
unfolding run_blocks answer_blocks
runs_blocks [] a r =
    ap (λ (s : Text). cond (leb 1 a.len) s []) (sym (called 1 (10 ∷ []) a (omega arith) r).wrote)
    ∙ sym (end_newline (next_line step_frame_in) (answer_line step_frame_in) a.mem a.len a.line)
runs_blocks (b ∷ bs) a r =
    let c = called (length b) b a (omega arith) r in
    let a' : StreamState = after_calls (length b) b a in
    let rest : run_blocks bs a' ≡ answer_blocks (stream_line_capacity a) (next_line step_frame_in) (answer_line step_frame_in) (step_block_in a b) bs
    = runs_blocks bs a' (omega (arith, c.room, r))
    ∙ ap (λ (n : ℕ). answer_blocks (line_capacity n) (next_line step_frame_in) (answer_line step_frame_in) (byte_machine a') bs) c.line
    ∙ ap (λ (x : Line × FramesMemory). answer_blocks (stream_line_capacity a) (next_line step_frame_in) (answer_line step_frame_in) x bs) (sym c.state) in
    ap (λ (s : Text). s ++ run_blocks bs a') (sym c.wrote) ∙ ap (λ (s : Text). answer_block_in a b ++ s) rest

any_blocks_answered : (m : FramesMemory) → LargeEnough m → m.kept ≡ initial_counters → (bs : List Text)
    → answer_blocks max_digits (next_line step_frame_in) (answer_line step_frame_in) (text [], m) bs ≡ output (flatten bs)
unfolding AnyBlocks
any_blocks_answered m large e bs =
    any_blocks FramesMemory max_digits (next_line step_frame_in) (answer_line step_frame_in) m bs ∙ memory-claims.writes m large e (flatten bs)

-- A new line, in a line buffer of at least 4,096 bytes.
most_digits : (room : ℕ) → max_digits ≤ room → line_capacity room ≡ max_digits
unfolding line_capacity
most_digits room h = go (leb room 4096) refl
  where
    go : (v : Bool) → leb room 4096 ≡ v → cond v room 4096 ≡ 4096
    go true e = omega (arith, leb-true room 4096 e)
    go false e = refl

begins : (a : StreamState) → a.len ≡ 0 → byte_machine a ≡ (text [], a.mem)
begins a z = ap (λ (n : ℕ). (line_in_buffer n a.line, a.mem)) z ∙ ap (λ (l : Line). (l, a.mem)) (line_new a.line)

pub runs : (a : StreamState) → LargeEnough a.mem → a.mem.kept ≡ initial_counters → a.len ≡ 0 → max_digits ≤ length a.line → max_answer_line ≤ length a.out
    → (bs : List Text) → run_blocks bs a ≡ output (flatten bs)
runs a large e z l r bs =
    runs_blocks bs a r ∙ ap (λ (n : ℕ). answer_blocks n (next_line step_frame_in) (answer_line step_frame_in) (byte_machine a) bs) (most_digits (length a.line) l)
    ∙ ap (λ (x : Line × FramesMemory). answer_blocks max_digits (next_line step_frame_in) (answer_line step_frame_in) x bs) (begins a z)
    ∙ any_blocks_answered a.mem large e bs

pub stream_theorems : StreamTheorems
stream_theorems = record {
  never_short = never_short;
  feeds = feeds;
  calls = λ block a r. let c = called (length block) block a (omega arith) r in (c.state, c.wrote);
  any_blocks_answered = any_blocks_answered;
  runs = runs;
}
