-- Method: The relations that the contracts of the code state after it has acted on a frame.
use Rattle.std.specs.Prelude.{◌≡◌, ℕ, Bool, true, false, List, length, Result, Ok, Err}
use Rattle.text.specs.Text.{Text, written}
use Rattle.refusal.specs.Outcome.{Outcome}
use Rattle.frames_spec.specs.Frame.{frame}
use Rattle.frames_spec.specs.State.{Answer, success, refusal, outcome_answer, count_up, Transition}
use Rattle.frame_decode.specs.declared.FrameHeader.{FrameHeader}
use Rattle.frame_decode.specs.Header.{action_in}
use Rattle.frames_memory.specs.declared.Counters.{Counters}
use Rattle.frames_memory.specs.Memory.{FramesMemory, frames_memory, add_in, close_in, step_frame_in}
use Rattle.refusal.specs.declared.Refusal.{Refusal}

-- The reply type of the code for a protocol reply.
abbrev pub answer_reply : Answer → Result ℕ Refusal
answer_reply (success q) = Ok (length q)
answer_reply (refusal x) = Err x

-- The payload buffer after a reply: the payload over its beginning.
abbrev pub answer_payload : Answer → Text → Text
answer_payload (success q) out = written q out
answer_payload (refusal x) out = out

-- The code returned the reply a: as its reply value and in the payload buffer.
unfoldable pub Replies : Answer → Result ℕ Refusal → Text → Text → Type 0
Replies a r before after = (r ≡ answer_reply a) × (after ≡ answer_payload a before)

-- The code returned the reply for an outcome.
abbrev pub RepliesPath : Outcome → Result ℕ Refusal → Text → Text → Type 0
RepliesPath o r before after = Replies (outcome_answer o) r before after

-- The code performed the step t: the memory after it, the reply and the payload buffer are those of the step.
pub record StepDone (t : Transition FramesMemory) (m : FramesMemory) (r : Result ℕ Refusal) (before after : Text) : Type 0 where
  pub state : m ≡ t.state
  pub reply : r ≡ answer_reply t.answer
  pub payload : after ≡ answer_payload t.answer before

-- The code performed the step of the frame with the bytes b that the header denotes, whatever its kind byte is.
unfoldable pub FrameDone : Text → FrameHeader → FramesMemory → FramesMemory → Result ℕ Refusal → Text → Text → Type 0
unfolding action_in step_frame_in
FrameDone b h m m' reply before after = (k : ℕ) → StepDone (step_frame_in m (frame k (action_in b h))) m' reply before after

-- The count of 05 frames answered 00, after this reply.
abbrev pub count_reply : Result ℕ Refusal → ℕ → ℕ
count_reply (Ok n) k = count_up k
count_reply (Err x) k = k

-- The count after a path frame: paths home are not counted.
abbrev pub count_route : Bool → Result ℕ Refusal → ℕ → ℕ
count_route true r k = k
count_route false r k = count_reply r k

-- The code performed the step of an 01 frame, whatever the leg store is.
unfoldable pub PairDone : Text → Text → Counters → Text → List ℕ → Counters → Result ℕ Refusal → Text → List ℕ → Type 0
unfolding add_in
PairDone s t k bytes places k' reply bytes' places' =
    (store : Text) (slots table : List ℕ) (payload : Text)
    → StepDone (add_in (frames_memory k bytes places store slots table) s t) (frames_memory k' bytes' places' store slots table) reply payload payload

-- The code performed the step of an 03 or 04 frame.
unfoldable pub CloseDone : Bool → FramesMemory → FramesMemory → Result ℕ Refusal → Type 0
unfolding close_in
CloseDone relocates m m' reply = (payload : Text) → StepDone (close_in relocates m) m' reply payload payload
