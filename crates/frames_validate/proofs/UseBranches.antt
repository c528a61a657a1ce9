-- Lemmas about the branches of the validation.
use Rattle.std.specs.Prelude.{Result, Ok, ⊤}
use mathlib.Core.Path.{◌≡◌, refl, ap, ◌∙◌}
use mathlib.Core.Bool.{Bool}
use mathlib.Core.List.{[], ◌∷◌}
use Prim.Native.Nat.{ℕ, ◌-◌, ◌<◌}
use native.Mathlib.Omega.{arith}
use lib.ListN.{length}
use Rattle.text.specs.Text.{Text}
use Rattle.path.specs.Calls.{path_new_call}
use Rattle.validate.specs.Validate.{validate_call, first_refusal}
use Rattle.route_legs.specs.LentRoute.{LentRoute, validate_route}
use Rattle.route_legs.proofs.RouteLaws.{route_one_by_one}
use Rattle.frame_decode.specs.declared.FrameHeader.{FrameHeader}
use Rattle.frame_decode.specs.declared.FrameHeader.TheVariants.{AddPair, Statuses, Close, Route, Count}
use Rattle.frame_decode.specs.Header.{last_bytes, action_in}
use Rattle.frames_memory.specs.Memory.{FramesMemory, open_list_of, route_of}
use Rattle.frames_validate.specs.Checked.{validate_use}
use Rattle.refusal.specs.declared.Refusal.{Refusal}

-- `last_bytes`
pub last_all : (b : Text) (n : ℕ) → length b < n → b ≡ last_bytes n b
last_all b n h = let z : length b - n ≡ 0 = omega arith in rw z refl

-- `validate_path`: the questions for the legs and the path together.
pub path_validated : (s : LentRoute) (p t : Text) (q a r : Result ⊤ Refusal) → q ≡ validate_route s [] → t ≡ p → a ≡ path_new_call t → r ≡ first_refusal q a
    → r ≡ validate_route s (p ∷ [])
path_validated s p t q a r e f g h =
    h ∙ ap (λ (x : Result ⊤ Refusal). first_refusal x a) e ∙ ap (first_refusal (validate_route s [])) (g ∙ ap path_new_call f) ∙ route_one_by_one s p

-- `validate_use`
module _ (m : FramesMemory) (b : Text) (h : FrameHeader) where
  pub use_pair : (n k : ℕ) → h ≡ AddPair n k → (Ok tt) ≡ validate_use m (action_in b h)
  unfolding validate_use action_in
  use_pair n k e = rw e refl

  pub use_statuses : h ≡ Statuses → (Ok tt) ≡ validate_use m (action_in b h)
  unfolding validate_use action_in
  use_statuses e = rw e refl

  pub use_close : (relocates : Bool) → h ≡ Close relocates → (r : Result ⊤ Refusal) → r ≡ validate_call (open_list_of m ∷ []) [] [] → r ≡ validate_use m (action_in b h)
  unfolding validate_use action_in
  use_close relocates e r w = rw e w

  pub use_route : (back : Bool) (n : ℕ) → h ≡ Route back n → (r : Result ⊤ Refusal) → r ≡ validate_route (route_of m) (last_bytes n b ∷ []) → r ≡ validate_use m (action_in b h)
  unfolding validate_use action_in
  use_route back n e r w = rw e w

  pub use_count : h ≡ Count → (Ok tt) ≡ validate_use m (action_in b h)
  unfolding validate_use action_in
  use_count e = rw e refl
