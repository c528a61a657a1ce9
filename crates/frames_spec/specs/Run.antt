-- Meaning: A run: the frames of an input in order, with none for a bad frame; and the theorems about every run.
use Rattle.std.specs.Prelude.{◌≡◌, ℕ, ◌+◌, ◌≤◌, true, false, cond, List, [], ◌∷◌, leb, length, Option, Some, None}
use Rattle.text.specs.Text.{Text}
use Rattle.path_grammar.specs.Own.{has_variant_selection}
use Rattle.refusal.specs.declared.Refusal.{Refusal}
use Rattle.refusal.specs.Outcome.{Outcome, path, refused}
use Rattle.frames_spec.specs.Frame.{Frame, frame, add_one_pair, statuses, close, route, count, kind, out, home, count_frame}
use Rattle.frames_spec.specs.State.{State, Transition, initial_state, success, refusal, answer_bytes, route_path, big_endian32, step_frame}

-- Generic in the type of state and in the step that a frame takes on it.
module _ {S : Type 0} (step : S → Frame → Transition S) where
  -- The state after a frame. Requirements: "A bad frame gives FF09"; it changes nothing.
  abbrev pub next_state : S → Option Frame → S
  next_state st None = st
  next_state st (Some f) = (step st f).state

  -- The bytes of the reply line.
  abbrev pub answer_frame : S → Option Frame → Text
  answer_frame st None = 255 ∷ 9 ∷ []
  answer_frame st (Some f) = (kind f + 128) ∷ answer_bytes (step st f).answer

-- The state after a list of frames.
unfoldable pub state_after_frames : State → List (Option Frame) → State
unfolding step_frame
state_after_frames st [] = st
state_after_frames st (f ∷ fs) = state_after_frames (next_state step_frame st f) fs

-- 1 if the outcome is a path, otherwise 0.
abbrev pub count_if_path : Outcome → ℕ
count_if_path (path q) = 1
count_if_path (refused x) = 0

-- 1 if the frame maps a path out and is answered 00, otherwise 0.
abbrev pub count_out : State → Option Frame → ℕ
count_out st None = 0
count_out st (Some (frame k (add_one_pair s t))) = 0
count_out st (Some (frame k statuses)) = 0
count_out st (Some (frame k (close relocates))) = 0
count_out st (Some (frame k (route false p))) = count_if_path (route_path false st p)
count_out st (Some (frame k (route true p))) = 0
count_out st (Some (frame k count)) = 0

-- The number of 05 frames answered 00, counted from the input without the program's own counter. Requirements: "count of 05 frames answered
-- 00, for the whole run".
unfoldable pub count_outs : State → List (Option Frame) → ℕ
unfolding step_frame route_path
count_outs st [] = 0
count_outs st (f ∷ fs) = count_out st f + count_outs (next_state step_frame st f) fs

-- The counter's limit. Requirements: "held at FFFFFFFF".
abbrev pub saturate32 : ℕ → ℕ
saturate32 n = cond (leb n 4294967295) n 4294967295

-- The limits on a state. Requirements: "at most 64 pairs", "at most 16 legs", "32,768 over all legs", "held at FFFFFFFF".
pub record WithinLimits (st : State) : Type 0 where
  pub pairs : length st.opened ≤ 64
  pub legs : length st.legs ≤ 16
  pub bytes : st.used ≤ 32768
  pub outs : st.outs ≤ 4294967295

-- The theorems about every run.
pub record RunTheorems : Type 0 where
  -- Every state of a run is within the limits.
  pub within : (fs : List (Option Frame)) → WithinLimits (state_after_frames initial_state fs)
  -- A refused frame changes nothing.
  pub refused_still : (st : State) (f : Frame) (x : Refusal) → (step_frame st f).answer ≡ refusal x → (step_frame st f).state ≡ st
  -- In every run: if 05 with a path without selections is answered 00 with q, the next frame, 06 with q, is answered 00 with that path.
  pub comes_home : (fs : List (Option Frame)) (p q : Text) → has_variant_selection p ≡ false
      → (step_frame (state_after_frames initial_state fs) (out p)).answer ≡ success q → (step_frame (next_state step_frame (state_after_frames initial_state fs) (Some (out p))) (home q)).answer ≡ success p
  -- 07 returns the number of 05 frames answered 00 in the input so far.
  pub counts_outs : (fs : List (Option Frame)) → (step_frame (state_after_frames initial_state fs) count_frame).answer ≡ success (big_endian32 (saturate32 (count_outs initial_state fs)))
