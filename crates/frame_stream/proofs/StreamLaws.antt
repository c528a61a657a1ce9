-- Lemmas about consecutive steps: the result of `process_block`, and that the machine processed the bytes it consumed.
use mathlib.Core.Path.{◌≡◌, refl, sym, ap, subst, ◌∙◌}
use mathlib.Core.Bool.{Bool, true, false, cond}
use mathlib.Core.List.{[], ◌++◌}
use Prim.Native.Nat.{ℕ, zero, suc, ◌+◌, ◌-◌, ◌≤◌, ◌<◌}
use native.Mathlib.Nat.{zero-add}
use native.Mathlib.Omega.{arith}
use lib.Dec.{ltb}
use lib.ListN.{length, take, drop, length-append, length-take, length-drop}
use lib.Seq.{take-add}
use borrow.Author.Tests.{le-leb, lt-leb, leb-true, leb-false, lt-ltb, le-ltb, ltb-true}
use Rattle.text.specs.Text.{Text, written_at, written_if_fits}
use Rattle.text.proofs.BoolLaws.{and_l, and_r, and_no}
use Rattle.text.proofs.WriteLaws.{rest_whole, over_none}
use Rattle.pair_list_write.proofs.WriteBranches.{over_over}
use Rattle.line_reader.specs.Lines.{Line, line_capacity}
use Rattle.line_reader.specs.Blocks.{step_block, answer_block}
use Rattle.line_reader.proofs.BlockLaws.{stepped_append, answered_append}
use Rattle.frames_spec.specs.Input.{next_line, answer_line, max_answer_line}
use Rattle.frames_memory.specs.Memory.{FramesMemory, step_frame_in}
use Rattle.frame_answer.specs.Answer.{room_at}
use Rattle.frame_stream.specs.Stream.{StreamState, stream_step, can_step, stream_steps, process_block}
use Rattle.frame_stream.specs.StreamTheorems.{byte_machine, stream_line_capacity, step_block_in, answer_block_in, ProcessesBlock, next_call}
use Rattle.frame_stream.proofs.StepBranches.{from, step_from, Goes, turned}

-- The next step.
abbrev pub next_turn : Text → StreamState → StreamState
next_turn block a = stream_step (drop a.used block) a

-- A byte is left, and there is space for a reply.
module _ (block : Text) (a : StreamState) where
  pub goes_on : a.used < length block → a.end + 515 ≤ length a.out → can_step block a ≡ true
  goes_on h r = rw (lt-ltb a.used (length block) h) (le-leb (a.end + 515) (length a.out) r)

  pub stops_used : length block ≤ a.used → can_step block a ≡ false
  stops_used h = rw (le-ltb a.used (length block) h)

  pub stops_full : length a.out < a.end + 515 → can_step block a ≡ false
  stops_full h = rw (lt-leb (a.end + 515) (length a.out) h) (and_no (ltb a.used (length block)))

  pub byte_left : can_step block a ≡ true → a.used < length block
  byte_left e = ltb-true a.used (length block) (and_l (ltb a.used (length block)) (room_at a.end a.out) e)

  pub room_left : can_step block a ≡ true → a.end + 515 ≤ length a.out
  room_left e = leb-true (a.end + 515) (length a.out) (and_r (ltb a.used (length block)) (room_at a.end a.out) e)

  -- Each step consumes a byte.
  pub uses_byte : can_step block a ≡ true → a.used < (next_turn block a).used
  uses_byte e =
      let t = turned (drop a.used block) a in
      omega (arith, t.used, t.further (omega (arith, length-drop a.used block, byte_left e)))

-- The bound on the number of steps never stops the loop.
more_steps : (block : Text) (n : ℕ) (a : StreamState) → length block ≤ a.used + n → cond (can_step block a) (stream_steps n block (next_turn block a)) a ≡ stream_steps n block a
unfolding stream_steps
more_steps block zero a h = rw (stops_used block a (omega arith))
more_steps block (suc n) a h = go (can_step block a) refl (more_steps block n (next_turn block a))
  where
    go : (v : Bool) → can_step block a ≡ v
        → (length block ≤ (next_turn block a).used + n
        → cond (can_step block (next_turn block a)) (stream_steps n block (next_turn block (next_turn block a))) (next_turn block a) ≡ stream_steps n block (next_turn block a))
        → cond v (stream_steps (suc n) block (next_turn block a)) a ≡ cond v (stream_steps n block (next_turn block a)) a
    go true e ih = ih (omega (arith, uses_byte block a e))
    go false e ih = refl

pub never_short : (block : Text) (a : StreamState) → process_block block a ≡ cond (can_step block a) (process_block block (next_turn block a)) a
unfolding process_block
never_short block a = sym (more_steps block (length block) a (omega arith))

all_steps : (block : Text) (n : ℕ) (a : StreamState) → length block ≤ a.used + n → can_step block (stream_steps n block a) ≡ false
unfolding stream_steps
all_steps block zero a h = stops_used block a (omega arith)
all_steps block (suc n) a h = go (can_step block a) refl (all_steps block n (next_turn block a))
  where
    go : (v : Bool) → can_step block a ≡ v → (length block ≤ (next_turn block a).used + n → can_step block (stream_steps n block (next_turn block a)) ≡ false)
        → can_step block (cond v (stream_steps n block (next_turn block a)) a) ≡ false
    go true e ih = ih (omega (arith, uses_byte block a e))
    go false e ih = e

-- `process_block`: one iteration of the loop.
pub record Stepped (block : Text) (a a' : StreamState) : Type 0 where
  pub same : process_block block (from (a.used + a'.used) a') ≡ process_block block a
  pub inside : a.used + a'.used ≤ length block
  pub further : 0 < a'.used
  pub fits : a'.end ≤ length a.out

pub process_step : (block : Text) (a a' : StreamState) → a.used < length block → a.end + 515 ≤ length a.out
    → a' ≡ stream_step (take (length block - a.used) (drop a.used block)) (from 0 a) → Stepped block a a'
process_step block a a' h r e =
    let rest : Text = drop a.used block in
    let e' : a' ≡ stream_step rest (from 0 a) = rw (rest_whole block a.used) at e in
    let t = turned rest (from 0 a) in
    let u : a'.used ≡ (stream_step rest (from 0 a)).used = ap (λ (x : StreamState). x.used) e' in
    let z : (stream_step rest (from 0 a)).used ≡ t.count = t.used ∙ zero-add t.count in
    let d = length-drop a.used block in
    let next : from (a.used + a'.used) a' ≡ stream_step rest a = ap (λ (x : StreamState). from (a.used + x.used) x) e' ∙ step_from rest a in
    record {
      same = ap (process_block block) next ∙ sym (never_short block a ∙ ap (λ (v : Bool). cond v (process_block block (stream_step rest a)) a) (goes_on block a h r));
      inside = omega (arith, u, z, d, t.inside);
      further = omega (arith, u, z, t.further (omega (arith, d)));
      fits = omega (arith, ap (λ (x : StreamState). x.end) e', t.fits);
    }

-- `process_block`: the end of the loop.
module _ (block : Text) (a : StreamState) where
  process_stop : can_step block a ≡ false → process_block block a ≡ a
  process_stop e = never_short block a ∙ ap (λ (v : Bool). cond v (process_block block (next_turn block a)) a) e

  pub process_full : length a.out < a.end + 515 → process_block block a ≡ a
  process_full h = process_stop (stops_full block a h)

  pub process_used : length block ≤ a.used → process_block block a ≡ a
  process_used h = process_stop (stops_used block a h)

-- The bytes in two parts.
module _ (a a₁ : StreamState) (s s' : Text) (l : length a₁.line ≡ length a.line) (e : step_block_in a s ≡ byte_machine a₁) where
  on_machine : {A : Type 0} (f : ℕ → Line × FramesMemory → A) → f (stream_line_capacity a) (step_block_in a s) ≡ f (stream_line_capacity a₁) (byte_machine a₁)
  on_machine f = ap (f (stream_line_capacity a)) e ∙ ap (λ (n : ℕ). f (line_capacity n) (byte_machine a₁)) (sym l)

  pub stepped_both : step_block_in a (s ++ s') ≡ step_block_in a₁ s'
  stepped_both =
      stepped_append (stream_line_capacity a) (next_line step_frame_in) (answer_line step_frame_in) (byte_machine a) s s'
      ∙ on_machine (λ (n : ℕ) (c : Line × FramesMemory). step_block n (next_line step_frame_in) (answer_line step_frame_in) c s')

  pub answered_both : answer_block_in a (s ++ s') ≡ answer_block_in a s ++ answer_block_in a₁ s'
  answered_both =
      answered_append (stream_line_capacity a) (next_line step_frame_in) (answer_line step_frame_in) (byte_machine a) s s'
      ∙ on_machine (λ (n : ℕ) (c : Line × FramesMemory). answer_block_in a s ++ answer_block n (next_line step_frame_in) (answer_line step_frame_in) c s')

-- A text written after another.
over_length : (at : ℕ) (s out : Text) → at + length s ≤ length out → length (written_at at s out) ≡ length out
over_length at s out h = simp (length-append, length-take, length-drop) (omega arith)

over_then : (at : ℕ) (s t out : Text) → at + (length s + length t) ≤ length out → written_at (at + length s) t (written_at at s out) ≡ written_at at (s ++ t) out
unfolding written_if_fits
over_then at s t out h =
    let l : length (written_at at s out) ≡ length out = over_length at s out (omega arith) in
    rw (le-leb (at + length s) (length out) (omega arith), l, le-leb (at + length s + length t) (length out) (omega arith)) at (over_over at s t out h)

-- No bytes.
goes_none : (a : StreamState) → Goes [] a a
unfolding step_block answer_block
goes_none a = record { state = refl; wrote = over_none a.end a.out; ends = omega arith; line = refl }

-- One part after another.
goes_then : {a a₁ a₂ : StreamState} {s s' : Text} → a₂.end ≤ length a.out → Goes s a a₁ → Goes s' a₁ a₂ → Goes (s ++ s') a a₂
goes_then {a} {a₁} {a₂} {s} {s'} h g k =
    let t : Text = answer_block_in a s in
    let t' : Text = answer_block_in a₁ s' in
    let all : answer_block_in a (s ++ s') ≡ t ++ t' = answered_both a a₁ s s' g.line g.state in
    let n : a₂.end ≡ a.end + (length t + length t') = omega (arith, g.ends, k.ends) in
    record {
      state = stepped_both a a₁ s s' g.line g.state ∙ k.state;
      wrote =
          k.wrote ∙ ap (λ (j : ℕ). written_at j t' a₁.out) g.ends ∙ ap (written_at (a.end + length t) t') g.wrote
          ∙ over_then a.end t t' a.out (omega arith) ∙ ap (λ (x : Text). written_at a.end x a.out) (sym all);
      ends = n ∙ ap (λ (j : ℕ). a.end + j) (sym (length-append t t')) ∙ ap (λ (x : Text). a.end + length x) (sym all);
      line = k.line ∙ g.line;
    }

goes_room : {a a₁ : StreamState} {s : Text} → a₁.end ≤ length a.out → Goes s a a₁ → length a₁.out ≡ length a.out
goes_room {a} {a₁} {s} h g = ap length g.wrote ∙ over_length a.end (answer_block_in a s) a.out (omega (arith, g.ends))

-- The state reached from a within the block.
record StepsTo (block : Text) (a a₁ : StreamState) : Type 0 where
  goes : Goes (take a₁.used block) a a₁
  inside : a₁.used ≤ length block
  fits : a₁.end ≤ length a.out

reach_on : (block : Text) (a a₁ : StreamState) → StepsTo block a a₁ → can_step block a₁ ≡ true → StepsTo block a (next_turn block a₁)
reach_on block a a₁ r e =
    let t = turned (drop a₁.used block) a₁ in
    let f : (next_turn block a₁).end ≤ length a.out = omega (arith, t.fits, room_left block a₁ e, goes_room r.fits r.goes) in
    record {
      goes = subst (λ (s : Text). Goes s a (next_turn block a₁)) (sym (ap (λ (n : ℕ). take n block) t.used ∙ take-add a₁.used t.count block)) (goes_then f r.goes t.goes);
      inside = omega (arith, t.used, t.inside, length-drop a₁.used block, r.inside);
      fits = f;
    }

reach_from : (block : Text) (n : ℕ) (a a₁ : StreamState) → StepsTo block a a₁ → StepsTo block a (stream_steps n block a₁)
unfolding stream_steps
reach_from block zero a a₁ r = r
reach_from block (suc n) a a₁ r = go (can_step block a₁) refl (reach_from block n a (next_turn block a₁))
  where
    go : (v : Bool) → can_step block a₁ ≡ v → (StepsTo block a (next_turn block a₁) → StepsTo block a (stream_steps n block (next_turn block a₁)))
        → StepsTo block a (cond v (stream_steps n block (next_turn block a₁)) a₁)
    go true e ih = ih (reach_on block a a₁ r e)
    go false e ih = r

left_full : (block : Text) (a : StreamState) → can_step block a ≡ false → a.used < length block → length a.out < a.end + max_answer_line
left_full block a e h = leb-false (a.end + 515) (length a.out) (rw (lt-ltb a.used (length block) h) at e)

-- One call.
pub feeds : (block : Text) (a : StreamState) → ProcessesBlock block (next_call a) (process_block block (next_call a))
unfolding process_block
feeds block a =
    let a' : StreamState = stream_steps (length block) block (next_call a) in
    let r = reach_from block (length block) (next_call a) (next_call a) (record { goes = goes_none (next_call a); inside = omega arith; fits = omega arith }) in
    let t : Text = answer_block_in (next_call a) (take a'.used block) in
    let l : length a'.out ≡ length a.out = goes_room r.fits r.goes in
    record {
      state = r.goes.state;
      wrote = r.goes.wrote ∙ ap (λ (j : ℕ). t ++ drop j a.out) (zero-add (length t));
      ends = r.goes.ends ∙ zero-add (length t);
      inside = r.inside;
      fits = r.fits;
      further = λ h. omega (arith, l, left_full block a' (all_steps block (length block) (next_call a) (omega arith)) h);
      line = r.goes.line;
      room = l;
    }

-- The bounds on the two numbers for a caller of `process_block`.
pub process_bounds : (block : Text) (a a' : StreamState) → a' ≡ process_block block (next_call a) → (a'.used ≤ length block) × (a'.end ≤ length a.out)
process_bounds block a a' e =
    let f = feeds block a in
    (omega (arith, ap (λ (x : StreamState). x.used) e, f.inside), omega (arith, ap (λ (x : StreamState). x.end) e, f.fits))
