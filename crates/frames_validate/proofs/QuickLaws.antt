-- The step of a validated frame is the program's own step: for a path this is the quick way over maps, for the others the two are the same.
use Rattle.std.specs.Prelude.{Result, Ok, Err, ⊤}
use mathlib.Core.Path.{◌≡◌, refl, sym, ap}
use mathlib.Core.Bool.{Bool, true, false}
use mathlib.Core.List.{[], ◌∷◌}
use Rattle.text.specs.Text.{Text}
use Rattle.refusal.specs.Refusal.{refused_or}
use Rattle.refusal.specs.Outcome.{Outcome}
use Rattle.route_legs.specs.LentRoute.{validate_route}
use Rattle.route.proofs.CallBranches.{validated_maps_run}
use Rattle.frames_spec.specs.Frame.{add_one_pair, statuses, close, route, count}
use Rattle.frames_spec.specs.State.{outcome_answer, Transition}
use Rattle.frames_memory.specs.Memory.{FramesMemory, route_of, count_in, route_path_in, step_frame_in}
use Rattle.frames_validate.specs.Checked.{validate_use, refuse_in, route_stored, step_frame_checked, QuickStep}
use Rattle.refusal.specs.declared.Refusal.{Refusal}

-- A validated path takes the same way.
same_route : (m : FramesMemory) (back : Bool) (p : Text) → validate_route (route_of m) (p ∷ []) ≡ Ok tt → route_stored back m p ≡ route_path_in back m p
unfolding route_stored route_path_in
same_route m back p h = sym (validated_maps_run back (route_of m) p h)

-- Two steps that agree if validation passes agree after it.
agree : (m : FramesMemory) (v : Result ⊤ Refusal) (s t : Transition FramesMemory) → (v ≡ Ok tt → s ≡ t) → refused_or v (refuse_in m) s ≡ refused_or v (refuse_in m) t
agree m (Ok tt) s t h = h refl
agree m (Err x) s t h = refl

-- A step that depends on the outcome of a path.
routed : (m : FramesMemory) (back : Bool) (p : Text) (f : Outcome → Transition FramesMemory)
    → refused_or (validate_route (route_of m) (p ∷ [])) (refuse_in m) (f (route_stored back m p)) ≡ refused_or (validate_route (route_of m) (p ∷ [])) (refuse_in m) (f (route_path_in back m p))
routed m back p f = agree m (validate_route (route_of m) (p ∷ [])) (f (route_stored back m p)) (f (route_path_in back m p)) (λ h. ap f (same_route m back p h))

pub quick_step : QuickStep
unfolding step_frame_checked step_frame_in validate_use
quick_step m k (add_one_pair s t) = refl
quick_step m k statuses = refl
quick_step m k (close relocates) = refl
quick_step m k (route false p) = routed m false p (λ (o : Outcome). count_in m o)
quick_step m k (route true p) = routed m true p (λ (o : Outcome). record { state = m; answer = outcome_answer o })
quick_step m k count = refl
