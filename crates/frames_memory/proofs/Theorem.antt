-- The proof of the theorem: a frame on buffers that hold a state of the protocol gets the reply of that state, and leaves buffers that hold
-- the next state.
use Rattle.std.specs.Prelude.{Option, Some, None}
use mathlib.Core.Path.{◌≡◌, refl, ap, ◌∙◌}
use mathlib.Core.Bool.{true, false}
use mathlib.Core.List.{List, [], ◌∷◌, ◌++◌}
use Prim.Native.Nat.{ℕ, ◌+◌}
use native.Mathlib.Omega.{arith}
use lib.ListN.{length}
use Rattle.text.specs.Text.{Text}
use Rattle.hex_digits.specs.Hex.{encode_hex}
use Rattle.line_reader.specs.Lines.{Line, lines_of}
use Rattle.line_reader.proofs.BlockLaws.{simulates}
use Rattle.pair_list.specs.Pair.{Pair, all_ends, all_short}
use Rattle.pair_list.specs.Places.{list_text, list_places, end_bytes}
use Rattle.refusal.specs.Outcome.{Outcome}
use Rattle.relocates.specs.Status.{status_list}
use Rattle.frames_spec.specs.Frame.{Frame, frame, add_one_pair, statuses, close, route, count, kind}
use Rattle.frames_spec.specs.State.{State, Answer, success, answer_bytes, outcome_answer, initial_state, route_path, count_outcome, answer_out, big_endian32, step_frame}
use Rattle.frames_spec.specs.Run.{next_state, answer_frame, saturate32}
use Rattle.frames_spec.proofs.RunLaws.{saturated_few, counts_few}
use Rattle.frames_spec.specs.Input.{max_digits, parse_line, next_line, answer_line, output}
use Rattle.frames_memory.specs.Memory.{FramesMemory, statuses_in, count_in, step_frame_in}
use Rattle.frames_memory.specs.Represents.{LargeEnough, Represents, SameStep, initial_counters, output_in, output_of, MemoryTheorems}
use Rattle.frames_memory.proofs.RouteLaws.{same_routes}
use Rattle.frames_memory.proofs.ValidateLaws.{open_read, list_passes}
use Rattle.frames_memory.proofs.AddLaws.{same_add}
use Rattle.frames_memory.proofs.CloseLaws.{same_close}

begins : (m : FramesMemory) → LargeEnough m → m.kept ≡ initial_counters → Represents m initial_state
unfolding all_ends all_short list_text list_places end_bytes
begins m large e = record {
  opened = record { number = ap (λ k. k.opened.pairs) e; end = ap (λ k. k.opened.bytes) e; text = refl; places = refl };
  ends = refl;
  short = refl;
  legs = record { count = ap (λ k. k.legs.count) e; each = λ k l. absurd (omega arith) };
  used = ap (λ k. k.legs.bytes) e;
  outs = ap (λ k. k.outs) e;
  within = record { pairs = omega arith; legs = omega arith; bytes = omega arith; outs = omega arith };
  large = large;
}

module _ (m : FramesMemory) (st : State) (g : Represents m st) where
  same_statuses : statuses_in m ≡ success (status_list st.opened (length st.opened))
  unfolding statuses_in
  same_statuses =
      rw (list_passes m st g)
      (ap (λ (l : List Pair). success (status_list l m.kept.opened.pairs)) (open_read m st g)
      ∙ ap (λ (n : ℕ). success (status_list st.opened n)) g.opened.number)

  same_count : (o : Outcome) → SameStep (count_in m o) (answer_out st o)
  same_count o = record {
    answers = refl;
    holds = record {
      opened = g.opened;
      ends = g.ends;
      short = g.short;
      legs = g.legs;
      used = g.used;
      outs = ap (count_outcome o) g.outs;
      within = record { pairs = g.within.pairs; legs = g.within.legs; bytes = g.within.bytes; outs = counts_few o st.outs g.within.outs };
      large = record { bytes = g.large.bytes; places = g.large.places; store = g.large.store; slots = g.large.slots; table = g.large.table };
    };
  }

  steps : (f : Frame) → SameStep (step_frame_in m f) (step_frame st f)
  unfolding step_frame_in step_frame
  steps (frame k (add_one_pair s t)) = same_add m st g s t
  steps (frame k statuses) = record { answers = same_statuses; holds = g }
  steps (frame k (close relocates)) = same_close m st g relocates
  steps (frame k (route false p)) = rw (same_routes m st g false p) (same_count (route_path false st p))
  steps (frame k (route true p)) = record { answers = ap outcome_answer (same_routes m st g true p); holds = g }
  steps (frame k count) =
      record { answers = ap (λ (n : ℕ). success (big_endian32 n)) (ap saturate32 g.outs ∙ saturated_few st.outs g.within.outs); holds = g }

  -- A parsed frame, or a bad one.
  same_frame : (f : Option Frame) → (answer_frame step_frame_in m f ≡ answer_frame step_frame st f) × Represents (next_state step_frame_in m f) (next_state step_frame st f)
  same_frame None = (refl, g)
  same_frame (Some f) = (ap (λ (a : Answer). (kind f + 128) ∷ answer_bytes a) (steps f).answers, (steps f).holds)

same_line : (m : FramesMemory) (st : State) (l : Line) → Represents m st → (answer_line step_frame_in m l ≡ answer_line step_frame st l) × Represents (next_line step_frame_in m l) (next_line step_frame st l)
unfolding answer_line
same_line m st l g = let w = same_frame m st g (parse_line l) in (ap (λ (b : Text). encode_hex b ++ 10 ∷ []) w.0, w.1)

outputs : (m : FramesMemory) (st : State) → Represents m st → (ls : List Line) → output_in m ls ≡ output_of st ls
outputs m st g ls = simulates Represents (next_line step_frame_in) (answer_line step_frame_in) (next_line step_frame) (answer_line step_frame) same_line ls m st g

writes : (m : FramesMemory) → LargeEnough m → m.kept ≡ initial_counters → (input : Text) → output_in m (lines_of max_digits input) ≡ output input
unfolding output
writes m large e input = outputs m initial_state (begins m large e) (lines_of max_digits input)

pub memory_theorems : MemoryTheorems
memory_theorems = record { begins = begins; steps = steps; outputs = outputs; writes = writes }
