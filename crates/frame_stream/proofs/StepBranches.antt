-- Lemmas about the branches of a step: it is the step of the definition, and the machine processes its bytes.
use mathlib.Core.Path.{◌≡◌, refl, sym, ap, ◌∙◌}
use mathlib.Core.Bool.{Bool, true, false}
use mathlib.Core.List.{[]}
use Prim.Native.Nat.{ℕ, suc, ◌+◌, ◌≤◌, ◌<◌}
use native.Mathlib.Nat.{zero-add}
use native.Mathlib.Numerals.{add-one}
use native.Mathlib.Omega.{arith}
use lib.Dec.{ltb}
use lib.ListN.{length, take}
use lib.Seq.{take_all, length-take-le}
use borrow.Author.Tests.{le-leb, ltb-true, ltb-false}
use Rattle.text.specs.Text.{Text, written_at}
use Rattle.line_reader.specs.Lines.{Line, text, line_capacity, line_in_buffer}
use Rattle.line_reader.specs.Blocks.{push_bytes}
use Rattle.line_reader.specs.TakeLine.{newline_index, line_length_after, take_line_reply, take_line_buffer}
use Rattle.line_reader.specs.declared.Taken.{Taken}
use Rattle.line_reader.proofs.TakeLaws.{stop_le, most_le}
use Rattle.line_reader.proofs.LineLaws.{line_grown, memory_length}
use Rattle.line_reader.proofs.BlockLaws.{stepped_one, answered_one, stepped_part, answered_part}
use Rattle.frames_spec.specs.Input.{next_line, answer_line}
use Rattle.frames_memory.specs.Memory.{FramesMemory, step_frame_in}
use Rattle.frame_answer.specs.Answer.{memory_after_line, out_after_line, end_after_line}
use Rattle.frame_stream.specs.Stream.{StreamState, after_taken, stream_step}
use Rattle.frame_stream.specs.StreamTheorems.{byte_machine, stream_line_capacity, step_block_in, answer_block_in}
use Rattle.frame_stream.proofs.AnswerLaws.{answer_fits}
use Rattle.text.proofs.WriteLaws.{over_none}

-- `stream_step`
module _ (block line line' : Text) (len end : ℕ) (out : Text) (m : FramesMemory) (t : Taken) (e : t ≡ take_line_reply block len (length line)) (w : line' ≡ take_line_buffer block len line) where
  abbrev first : StreamState
  first = record { used = 0; len = len; line = line; mem = m; end = end; out = out }

  -- The line does not end in the block.
  pub step_part : t.done ≡ false → record { used = t.used; len = t.len; line = line'; mem = m; end = end; out = out } ≡ stream_step block first
  unfolding stream_step
  step_part d = rw (← e, ← w, d, zero-add)

  -- The line ends, and is processed.
  pub step_line : end + 515 ≤ length out → t.done ≡ true → (m' : FramesMemory) (end' : ℕ) (out' : Text) → m' ≡ memory_after_line end out m (line_in_buffer t.len line')
      → end' ≡ end_after_line end out m (line_in_buffer t.len line') → out' ≡ out_after_line end out m (line_in_buffer t.len line')
      → record { used = t.used; len = 0; line = line'; mem = m'; end = end'; out = out' } ≡ stream_step block first
  unfolding stream_step memory_after_line end_after_line out_after_line
  step_line room d m' end' out' f g h =
      let yes = le-leb (end + 515) (length out) room in
      let f' : m' ≡ next_line step_frame_in m (line_in_buffer t.len line') = rw yes at f in
      let g' : end' ≡ end + length (answer_line step_frame_in m (line_in_buffer t.len line')) = rw yes at g in
      let h' : out' ≡ written_at end (answer_line step_frame_in m (line_in_buffer t.len line')) out = rw yes at h in
      rw (← e, ← w, d, zero-add, f', g', h')

-- A step in the middle of a block.
abbrev pub from : ℕ → StreamState → StreamState
from u a = record { used = u; len = a.len; line = a.line; mem = a.mem; end = a.end; out = a.out }

pub step_from : (rest : Text) (a : StreamState) → from (a.used + (stream_step rest (from 0 a)).used) (stream_step rest (from 0 a)) ≡ stream_step rest a
unfolding stream_step
step_from rest a = go (take_line_reply rest a.len (length a.line)) (take_line_buffer rest a.len a.line)
  where
    by : (t : Taken) (line : Text) (v : Bool) → t.done ≡ v → from (a.used + (after_taken t line (from 0 a)).used) (after_taken t line (from 0 a)) ≡ after_taken t line a
    by t line true e = rw (e, zero-add)
    by t line false e = rw (e, zero-add)

    go : (t : Taken) (line : Text) → from (a.used + (after_taken t line (from 0 a)).used) (after_taken t line (from 0 a)) ≡ after_taken t line a
    go t line = by t line t.done refl

-- A new line.
pub line_new : (mem : Text) → line_in_buffer 0 mem ≡ text []
unfolding line_in_buffer
line_new mem = rw (le-leb 0 (line_capacity (length mem)) (omega arith))

-- The bytes s take the machine from one state to another, and their replies are appended.
pub record Goes (s : Text) (a a' : StreamState) : Type 0 where
  pub state : step_block_in a s ≡ byte_machine a'
  pub wrote : a'.out ≡ written_at a.end (answer_block_in a s) a.out
  pub ends : a'.end ≡ a.end + length (answer_block_in a s)
  pub line : length a'.line ≡ length a.line

-- One step: the machine processes its bytes, at least one if one is left, and its reply is at most as long as the longest.
pub record Turned (rest : Text) (a a' : StreamState) : Type 0 where
  pub count : ℕ
  pub used : a'.used ≡ a.used + count
  pub inside : count ≤ length rest
  pub further : 0 < length rest → 0 < count
  pub goes : Goes (take count rest) a a'
  pub fits : a'.end ≤ a.end + 515

module _ (rest : Text) (a : StreamState) where
  abbrev t : Taken
  t = take_line_reply rest a.len (length a.line)

  abbrev line : Text
  line = take_line_buffer rest a.len a.line

  abbrev part : Text
  part = take (newline_index rest) rest

  kept_length : length line ≡ length a.line
  unfolding take_line_buffer
  kept_length = memory_length (stream_line_capacity a) a.len part a.line (most_le (length a.line))

  line_so_far : t.len ≡ line_length_after (stream_line_capacity a) a.len (newline_index rest) → line_in_buffer t.len line ≡ push_bytes (stream_line_capacity a) (line_in_buffer a.len a.line) part
  unfolding take_line_buffer
  line_so_far l =
      let k : newline_index rest ≡ length part = sym (length-take-le (newline_index rest) rest (stop_le rest)) in
      ap (λ (n : ℕ). line_in_buffer n line) (l ∙ ap (line_length_after (stream_line_capacity a) a.len) k) ∙ line_grown a.len a.line part

  -- A line with its newline.
  by_line : newline_index rest < length rest → t ≡ record { used = newline_index rest + 1; done = true; len = line_length_after (stream_line_capacity a) a.len (newline_index rest) } → Turned rest a (after_taken t line a)
  by_line h e =
      let l : Line = line_in_buffer t.len line in
      let r : Text = answer_line step_frame_in a.mem l in
      let d : t.done ≡ true = ap (λ (x : Taken). x.done) e in
      let u : t.used ≡ newline_index rest + 1 = ap (λ (x : Taken). x.used) e in
      let g : l ≡ push_bytes (stream_line_capacity a) (line_in_buffer a.len a.line) part = line_so_far (ap (λ (x : Taken). x.len) e) in
      let b : take t.used rest ≡ take (suc (newline_index rest)) rest = rw (u, add-one) in
      let s : answer_block_in a (take t.used rest) ≡ r
      = rw b (answered_one (stream_line_capacity a) (next_line step_frame_in) (answer_line step_frame_in) (line_in_buffer a.len a.line) a.mem rest h) ∙ ap (answer_line step_frame_in a.mem) (sym g) in
      let f : step_block_in a (take t.used rest) ≡ (line_in_buffer 0 line, next_line step_frame_in a.mem l)
      = rw b (stepped_one (stream_line_capacity a) (next_line step_frame_in) (answer_line step_frame_in) (line_in_buffer a.len a.line) a.mem rest h)
      ∙ ap (λ (x : Line). (text [], next_line step_frame_in a.mem x)) (sym g) ∙ ap (λ (x : Line). (x, next_line step_frame_in a.mem l)) (sym (line_new line)) in
      rw d (record {
        count = t.used;
        used = refl;
        inside = omega (arith, u);
        further = λ z. omega (arith, u);
        goes = record {
          state = f;
          wrote = ap (λ (x : Text). written_at a.end x a.out) (sym s);
          ends = ap (λ (x : Text). a.end + length x) (sym s);
          line = kept_length;
        };
        fits = omega (arith, answer_fits a.mem l);
      })

  -- A part of a line.
  by_part : length rest ≤ newline_index rest → t ≡ record { used = length rest; done = false; len = line_length_after (stream_line_capacity a) a.len (newline_index rest) } → Turned rest a (after_taken t line a)
  by_part h e =
      let d : t.done ≡ false = ap (λ (x : Taken). x.done) e in
      let u : t.used ≡ length rest = ap (λ (x : Taken). x.used) e in
      let g : line_in_buffer t.len line ≡ push_bytes (stream_line_capacity a) (line_in_buffer a.len a.line) part = line_so_far (ap (λ (x : Taken). x.len) e) in
      let b : take t.used rest ≡ rest = rw u (take_all (length rest) rest (omega arith)) in
      let k : part ≡ rest = take_all (newline_index rest) rest h in
      let s : answer_block_in a (take t.used rest) ≡ [] = rw b (answered_part (stream_line_capacity a) (next_line step_frame_in) (answer_line step_frame_in) (line_in_buffer a.len a.line) a.mem rest h) in
      let f : step_block_in a (take t.used rest) ≡ (line_in_buffer t.len line, a.mem)
      = rw b (stepped_part (stream_line_capacity a) (next_line step_frame_in) (answer_line step_frame_in) (line_in_buffer a.len a.line) a.mem rest h)
      ∙ ap (λ (x : Text). (push_bytes (stream_line_capacity a) (line_in_buffer a.len a.line) x, a.mem)) (sym k) ∙ ap (λ (x : Line). (x, a.mem)) (sym g) in
      rw d (record {
        count = t.used;
        used = refl;
        inside = omega (arith, u);
        further = λ z. omega (arith, u, z);
        goes = record {
          state = f;
          wrote = over_none a.end a.out ∙ ap (λ (x : Text). written_at a.end x a.out) (sym s);
          ends = omega (arith, ap length s);
          line = kept_length;
        };
        fits = omega arith;
      })

  pub turned : Turned rest a (stream_step rest a)
  unfolding stream_step take_line_reply
  turned = go (ltb (newline_index rest) (length rest)) refl
    where
      go : (v : Bool) → ltb (newline_index rest) (length rest) ≡ v → Turned rest a (after_taken t line a)
      go true f = by_line (ltb-true (newline_index rest) (length rest) f) (rw f)
      go false f = by_part (ltb-false (newline_index rest) (length rest) f) (rw f)
