-- Meaning: The step of a frame on memory that the caller of a line keeps, and may have altered: what the frame uses of it is validated first.
use Rattle.std.specs.Prelude.{◌≡◌, Bool, true, false, List, [], ◌∷◌, ℕ, Result, Ok, ⊤}
use Rattle.text.specs.Text.{Text}
use Rattle.line_reader.specs.Lines.{Line, fold_answers}
use Rattle.refusal.specs.declared.Refusal.{Refusal}
use Rattle.refusal.specs.Refusal.{refused_or}
use Rattle.refusal.specs.Outcome.{Outcome}
use Rattle.validate.specs.Validate.{validate_call}
use Rattle.route_spec.specs.Route.{run_route}
use Rattle.route_legs.specs.LentRoute.{map_legs, validate_route}
use Rattle.frames_spec.specs.Frame.{Frame, frame, Action, add_one_pair, statuses, close, route, count}
use Rattle.frames_spec.specs.State.{State, success, refusal, outcome_answer, big_endian32, Transition, step_frame}
use Rattle.frames_spec.specs.Run.{saturate32}
use Rattle.frames_spec.specs.Input.{next_line, answer_line}
use Rattle.frames_memory.specs.Memory.{FramesMemory, open_list_of, route_of, add_in, statuses_in, close_in, count_in, step_frame_in}
use Rattle.frames_memory.specs.Represents.{Represents, SameStep, output_of}

-- Questions 1 to 4 for what an action uses of the memory: a close uses the open list; a path, the legs, and each question is put to both. The
-- steps of the others put them themselves: adding a pair compares the size of the open list with its buffers (questions 4 and 5), and the
-- statuses validate the open list.
unfoldable pub validate_use : FramesMemory → Action → Result ⊤ Refusal
unfolding validate_call validate_route
validate_use m (add_one_pair s t) = Ok tt
validate_use m statuses = Ok tt
validate_use m (close relocates) = validate_call (open_list_of m ∷ []) [] []
validate_use m (route back p) = validate_route (route_of m) (p ∷ [])
validate_use m count = Ok tt

-- The step of a refused frame, which leaves the memory unchanged.
abbrev pub refuse_in : FramesMemory → Refusal → Transition FramesMemory
refuse_in m x = record { state = m; answer = refusal x }

-- The outcome of a path over the legs in the memory. A relocate leg was stored as the map that it stands for, so every leg is a map.
unfoldable pub route_stored : Bool → FramesMemory → Text → Outcome
unfolding run_route map_legs
route_stored back m p = run_route back (map_legs (route_of m) m.kept.legs.count) p

-- The step of each frame, whose use of the memory is validated first.
unfoldable pub step_frame_checked : FramesMemory → Frame → Transition FramesMemory
unfolding validate_use add_in statuses_in close_in route_stored
step_frame_checked m (frame k (add_one_pair s t)) = add_in m s t
step_frame_checked m (frame k statuses) = record { state = m; answer = statuses_in m }
step_frame_checked m (frame k (close relocates)) = refused_or (validate_use m (close relocates)) (refuse_in m) (close_in relocates m)
step_frame_checked m (frame k (route false p)) = refused_or (validate_use m (route false p)) (refuse_in m) (count_in m (route_stored false m p))
step_frame_checked m (frame k (route true p)) =
    refused_or (validate_use m (route true p)) (refuse_in m) (record { state = m; answer = outcome_answer (route_stored true m p) })
step_frame_checked m (frame k count) = record { state = m; answer = success (big_endian32 (saturate32 m.kept.outs)) }

-- The code validates what a frame uses and then takes the program's own step, `step_frame_in`, which maps a path the quick way. That is the step
-- defined above (proofs/QuickLaws.antt).
abbrev pub QuickStep : Type 0
QuickStep = (m : FramesMemory) (k : ℕ) (a : Action) → step_frame_checked m (frame k a) ≡ refused_or (validate_use m a) (refuse_in m) (step_frame_in m (frame k a))

-- The output for lines, computed from memory that is validated before each step.
abbrev pub output_checked : FramesMemory → List Line → Text
output_checked m ls = fold_answers (next_line step_frame_checked) (answer_line step_frame_checked) m ls

-- On memory that represents a state of the protocol, the validation changes nothing (proofs/Theorem.antt).
pub record CheckedTheorems : Type 0 where
  -- A frame has the step that it has without the validation.
  pub same : (m : FramesMemory) (st : State) → Represents m st → (f : Frame) → step_frame_checked m f ≡ step_frame_in m f
  -- So it gets the reply of the protocol and leaves memory that represents the next state.
  pub steps : (m : FramesMemory) (st : State) → Represents m st → (f : Frame) → SameStep (step_frame_checked m f) (step_frame st f)
  -- So does every list of lines.
  pub outputs : (m : FramesMemory) (st : State) → Represents m st → (ls : List Line) → output_checked m ls ≡ output_of st ls
