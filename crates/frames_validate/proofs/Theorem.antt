-- The proof of the theorem: on memory that represents a state of the protocol, the validation changes nothing. Such memory passes it; a
-- path that does not pass is refused with the same number by the step itself.
use Rattle.std.specs.Prelude.{Result, Ok, Err, Option, Some, None, ⊤}
use mathlib.Core.Path.{◌≡◌, refl, sym, ap, ◌∙◌, subst}
use mathlib.Core.Bool.{Bool, true, false}
use mathlib.Core.List.{List, [], ◌∷◌, ◌++◌}
use Prim.Native.Nat.{ℕ, ◌+◌}
use Rattle.text.specs.Text.{Text}
use Rattle.hex_digits.specs.Hex.{encode_hex}
use Rattle.line_reader.specs.Lines.{Line}
use Rattle.line_reader.proofs.BlockLaws.{simulates}
use Rattle.refusal.specs.declared.Refusal.{Refusal}
use Rattle.refusal.specs.Refusal.{refused_or}
use Rattle.refusal.specs.Outcome.{after_checks}
use Rattle.path.specs.Calls.{path_new_call}
use Rattle.validate.specs.Validate.{first_refusal}
use Rattle.route_legs.specs.LentRoute.{validate_route}
use Rattle.route_legs.proofs.RouteLaws.{route_one_by_one}
use Rattle.route.specs.Fast.{after_route_validated}
use Rattle.frames_spec.specs.Frame.{Frame, kind, frame, Action, add_one_pair, statuses, close, route, count}
use Rattle.frames_spec.specs.State.{State, Answer, answer_bytes, Transition, step_frame}
use Rattle.frames_spec.specs.Run.{next_state, answer_frame}
use Rattle.frames_spec.specs.Input.{parse_line, next_line, answer_line}
use Rattle.frames_memory.specs.Memory.{FramesMemory, route_of, route_path_in, step_frame_in}
use Rattle.frames_memory.specs.Represents.{Represents, SameStep, output_of}
use Rattle.frames_memory.proofs.ValidateLaws.{list_passes}
use Rattle.frames_memory.proofs.RouteValidLaws.{legs_pass}
use Rattle.frames_memory.proofs.Theorem.{memory_theorems}
use Rattle.frames_validate.specs.Checked.{validate_use, refuse_in, step_frame_checked, output_checked, CheckedTheorems}
use Rattle.frames_validate.proofs.QuickLaws.{quick_step}

module _ (m : FramesMemory) (st : State) (g : Represents m st) where
  -- The questions for the legs and a path are those for the path alone.
  path_only : (p : Text) → validate_route (route_of m) (p ∷ []) ≡ path_new_call p
  unfolding first_refusal
  path_only p = sym (route_one_by_one (route_of m) p) ∙ ap (λ a. first_refusal a (path_new_call p)) (legs_pass m st g)

  -- A path that is refused is refused by the step.
  path_refused : (k : ℕ) (back : Bool) (p : Text) (x : Refusal) → path_new_call p ≡ Err x → step_frame_in m (frame k (route back p)) ≡ refuse_in m x
  unfolding step_frame_in route_path_in after_route_validated first_refusal after_checks
  path_refused k false p x e = rw e refl
  path_refused k true p x e = rw e refl

  path_step : (k : ℕ) (back : Bool) (p : Text) (a : Result ⊤ Refusal) → path_new_call p ≡ a
      → refused_or a (refuse_in m) (step_frame_in m (frame k (route back p))) ≡ step_frame_in m (frame k (route back p))
  path_step k back p (Ok tt) e = refl
  path_step k back p (Err x) e = sym (path_refused k back p x e)

  after_use : (k : ℕ) (a : Action) → refused_or (validate_use m a) (refuse_in m) (step_frame_in m (frame k a)) ≡ step_frame_in m (frame k a)
  unfolding validate_use
  after_use k (add_one_pair s t) = refl
  after_use k statuses = refl
  after_use k (close relocates) = rw (list_passes m st g) refl
  after_use k (route back p) = rw (path_only p) (path_step k back p (path_new_call p) refl)
  after_use k count = refl

  same : (f : Frame) → step_frame_checked m f ≡ step_frame_in m f
  same (frame k a) = quick_step m k a ∙ after_use k a

  steps : (f : Frame) → SameStep (step_frame_checked m f) (step_frame st f)
  steps f = subst (λ (t : Transition FramesMemory). SameStep t (step_frame st f)) (sym (same f)) (memory_theorems.steps m st g f)

same_line : (m : FramesMemory) (st : State) (l : Line) → Represents m st
    → (answer_line step_frame_checked m l ≡ answer_line step_frame st l) × Represents (next_line step_frame_checked m l) (next_line step_frame st l)
unfolding answer_line
same_line m st l g = one (parse_line l)
  where
    one : (f : Option Frame) → (encode_hex (answer_frame step_frame_checked m f) ++ 10 ∷ [] ≡ encode_hex (answer_frame step_frame st f) ++ 10 ∷ [])
        × Represents (next_state step_frame_checked m f) (next_state step_frame st f)
    one None = (refl, g)
    one (Some f) = (ap (λ (a : Answer). encode_hex ((kind f + 128) ∷ answer_bytes a) ++ 10 ∷ []) (steps m st g f).answers, (steps m st g f).holds)

outputs : (m : FramesMemory) (st : State) → Represents m st → (ls : List Line) → output_checked m ls ≡ output_of st ls
outputs m st g ls = simulates Represents (next_line step_frame_checked) (answer_line step_frame_checked) (next_line step_frame) (answer_line step_frame) same_line ls m st g

pub checked_theorems : CheckedTheorems
checked_theorems = record { same = same; steps = steps; outputs = outputs }
