-- The proofs of the theorems of specs/Progress.antt. The output for blocks depends on the state only through the byte machine and the sizes of
-- the buffers (`runs_blocks`), so a call, whose replies and whose machine are known (`feeds`), leaves what remains to be written.
use mathlib.Core.Path.{◌≡◌, refl, sym, ap, subst, ◌∙◌}
use mathlib.Core.Bool.{cond}
use mathlib.Core.List.{List, [], ◌∷◌, ◌++◌, flatten, append_assoc, append-nil}
use Prim.Native.Nat.{ℕ, zero, suc, ◌+◌, ◌-◌, ◌≤◌}
use native.Mathlib.Numerals.{unary_clauses}
use native.Mathlib.Omega.{arith}
use lib.Dec.{leb}
use lib.ListN.{length, take, drop, replicate, length-replicate}
use lib.Seq.{take-nil, drop-drop}
use borrow.Author.Tests.{le-leb}
use Rattle.text.specs.Text.{Text}
use Rattle.text.specs.Bytes.{newline}
use Rattle.line_reader.specs.Lines.{Line, line_capacity}
use Rattle.line_reader.specs.Blocks.{answer_blocks}
use Rattle.frames_spec.specs.Input.{next_line, answer_line, output, max_answer_line}
use Rattle.frames_memory.specs.Memory.{FramesMemory, step_frame_in}
use Rattle.frames_memory.specs.Represents.{initial_counters}
use Rattle.frame_stream.specs.Stream.{StreamState, process_block}
use Rattle.frame_stream.specs.StreamTheorems.{stream_line_capacity, step_block_in, answer_block_in, next_call, after_calls, answers_in, written_out, run_blocks}
use Rattle.frame_stream.specs.Progress.{state_between, StartState, unconsumed, Progress, Reached, NextReplies, after_call, NextStep, by_call, by_read, after_input, last_replies, ProgressTheorems}
use Rattle.frame_stream.proofs.StreamLaws.{feeds}
use Rattle.frame_stream.proofs.Theorem.{stepped_then, answered_then, runs_blocks, runs}

-- The replies of the byte machine to blocks, from its state and the limit on the bytes of a line.
abbrev answer_from : ℕ → Line × FramesMemory → List Text → Text
answer_from n x bs = answer_blocks n (next_line step_frame_in) (answer_line step_frame_in) x bs

starts : (a : StreamState) → StartState a → Progress [] [] [] a
unfolding run_blocks written_out after_calls
starts a s = record { completes = λ bs. runs a s.large s.counters s.len s.line s.out bs; room = s.out }

module _ (read : List Text) (written rest : Text) (a : StreamState) (p : Progress read written rest a) where
  abbrev called : StreamState
  called = process_block rest (next_call a)

  abbrev left : Text
  left = drop called.used rest

  called_room : max_answer_line ≤ length called.out
  called_room = omega (arith, (feeds rest a).room, p.room)

  -- What is left to be written: the replies of the call, then what is left after it.
  split : (bs : List Text) → run_blocks (rest ∷ bs) a ≡ answers_in called ++ run_blocks (left ∷ bs) (next_call called)
  unfolding answer_blocks
  split bs =
      let f = feeds rest a in
      let machine : answer_from (stream_line_capacity a) (step_block_in a rest) bs ≡ answer_from (stream_line_capacity called) (step_block_in called left) bs
      = ap (λ (x : Line × FramesMemory). answer_from (stream_line_capacity a) x bs) (stepped_then rest (next_call a) called f)
      ∙ ap (λ (n : ℕ). answer_from (line_capacity n) (step_block_in called left) bs) (sym f.line) in
      runs_blocks (rest ∷ bs) a p.room
      ∙ ap (λ (s : Text). s ++ answer_from (stream_line_capacity a) (step_block_in a rest) bs) (answered_then rest (next_call a) called f)
      ∙ append_assoc (answers_in called) (answer_block_in called left) (answer_from (stream_line_capacity a) (step_block_in a rest) bs)
      ∙ ap (λ (s : Text). answers_in called ++ (answer_block_in called left ++ s)) machine
      ∙ ap (λ (s : Text). answers_in called ++ s) (sym (runs_blocks (left ∷ bs) (next_call called) called_room))

  calls : Progress read (written ++ answers_in called) left (after_call rest (next_call a))
  unfolding after_call
  calls = record {
    completes = λ bs. append_assoc written (answers_in called) (run_blocks (left ∷ bs) (next_call called)) ∙ ap (λ (s : Text). written ++ s) (sym (split bs)) ∙ p.completes bs;
    room = called_room;
  }

module _ (read : List Text) (written : Text) (a : StreamState) (p : Progress read written [] a) where
  reads : (b : Text) → Progress (read ++ (b ∷ [])) written b a
  unfolding run_blocks written_out after_calls
  reads b = record {
    completes = λ bs. p.completes (b ∷ bs) ∙ ap (λ (x : List Text). output (flatten x)) (sym (append_assoc read (b ∷ []) bs));
    room = p.room;
  }

  ends : written ++ last_replies a ≡ output (flatten read)
  unfolding run_blocks written_out after_calls last_replies
  ends =
      ap (λ (s : Text). written ++ cond (leb 1 a.len) s []) (sym (append-nil (answers_in (process_block (newline ∷ []) (next_call a)))))
      ∙ p.completes [] ∙ ap (λ (x : List Text). output (flatten x)) (append-nil read)

pub progress_theorems : ProgressTheorems
progress_theorems = record { starts = starts; reads = reads; calls = calls; ends = ends }

-- The same for a caller that knows only that there is some progress.
pub reached_start : (a : StreamState) → StartState a → Reached [] a
reached_start a s = record { read = []; written = []; progress = starts a s }

pub reached_read : (a : StreamState) → Reached [] a → (b : Text) → Reached b a
reached_read a r b = record { read = r.read ++ (b ∷ []); written = r.written; progress = reads r.read r.written a r.progress b }

pub reached_call : (rest : Text) (a : StreamState) → Reached rest a → Reached (drop (process_block rest (next_call a)).used rest) (after_call rest (next_call a))
reached_call rest a r = record {
  read = r.read;
  written = r.written ++ answers_in (process_block rest (next_call a));
  progress = calls r.read r.written rest a r.progress;
}

-- For the functions of the program, over plain values: a call, and the replies that it hands to the write.
pub next_replies : (rest : Text) (a a' : StreamState) → Reached rest a → a' ≡ process_block rest (next_call a) → NextReplies (take a'.end a'.out)
next_replies rest a a' r e = record { rest = rest; state = a; reached = r; same = ap answers_in e }

drop_take : (n m : ℕ) (t : Text) → drop n (take m t) ≡ take (m - n) (drop n t)
drop_take zero m t = simp unary_clauses refl
drop_take (suc n) zero t =
    let none : 0 ≡ 0 - suc n = omega arith in
    ap (λ (k : ℕ). take k (drop (suc n) t)) none
drop_take (suc n) (suc m) [] = sym (take-nil (suc m - suc n))
drop_take (suc n) (suc m) (a ∷ t) = simp unary_clauses (drop_take n m t)

-- After a call on the bytes from `at` to `end`, those are left that it did not consume.
drop_unconsumed : (block : Text) (at end n : ℕ) → drop n (unconsumed block at end) ≡ unconsumed block (at + n) end
drop_unconsumed block at end n =
    let left : end - at - n ≡ end - (at + n) = omega arith in
    drop_take n (end - at) (drop at block) ∙ ap (take (end - at - n)) (drop-drop n at block)
    ∙ ap (λ (k : ℕ). take k (drop (at + n) block)) left

pub next_called : (block : Text) (at end : ℕ) (a a' : StreamState) → a' ≡ process_block (unconsumed block at end) (next_call a)
    → NextStep (unconsumed block at end) a (unconsumed block (at + a'.used) end) (next_call a')
unfolding after_call
next_called block at end a a' e =
    by_call (sym (drop_unconsumed block at end a'.used) ∙ ap (λ (x : StreamState). drop x.used (unconsumed block at end)) e) (ap next_call e)

-- All is consumed.
pub consumed : (block : Text) (at end : ℕ) → end ≤ at → unconsumed block at end ≡ []
consumed block at end h =
    let none : end - at ≡ 0 = omega arith in
    ap (λ (n : ℕ). take n (drop at block)) none

-- A step leads to a state that is reached.
pub reached_next : (rest : Text) (a : StreamState) (rest' : Text) (a' : StreamState) → Reached rest a → NextStep rest a rest' a' → Reached rest' a'
reached_next rest a rest' a' r (by_call e f) = rw (e, f) (reached_call rest a r)
reached_next rest a rest' a' r (by_read e f) = rw f (reached_read a (subst (λ (s : Text). Reached s a) e r) rest')

-- At the end of the input: without an unfinished line, and with one.
pub input_ends : (a : StreamState) → a.len ≡ 0 → a ≡ after_input a
unfolding after_input
input_ends a e = sym (ap (λ (n : ℕ). cond (leb 1 n) (after_call (newline ∷ []) (next_call a)) a) e)

pub line_ends_lem : (a a' : StreamState) → (a.len ≡ 0 → ⊥) → a' ≡ process_block (newline ∷ []) (next_call a) → next_call a' ≡ after_input a
unfolding after_input after_call
line_ends_lem a a' h e = rw (le-leb 1 a.len (omega (arith, h))) (ap next_call e)

-- The program starts with buffers of zeros of these lengths.
at_least : (k n : ℕ) → k ≤ n → k ≤ length {A = ℕ} (replicate n 0)
at_least k n h = omega (arith, h, length-replicate {A = ℕ} n 0)

pub start_zeros : (line bytes places store slots table out : ℕ) → 4096 ≤ line → 32640 ≤ bytes → 256 ≤ places → 32768 ≤ store → 4096 ≤ slots → 48 ≤ table
    → max_answer_line ≤ out
    → StartState (state_between 0 initial_counters (replicate line 0) (replicate bytes 0) (replicate places 0) (replicate store 0) (replicate slots 0)
    (replicate table 0) (replicate out 0))
start_zeros line bytes places store slots table out hl hb hp hs ht hn ho = record {
  large = record {
    bytes = at_least 32640 bytes hb;
    places = at_least 256 places hp;
    store = at_least 32768 store hs;
    slots = at_least 4096 slots ht;
    table = at_least 48 table hn;
  };
  counters = refl;
  len = refl;
  line = at_least 4096 line hl;
  out = at_least 515 out ho;
}
