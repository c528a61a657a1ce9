-- What the state of the main loop says of the writing before it.
use Rattle.std.proofs.Common.{◌≡◌, ◌≢◌, ℕ, Option, None, Some, arith, refl}
use Rattle.frames.specs.declared.Failure.{Failure}
use Rattle.frames.specs.declared.LoopState.{LoopState}
use Rattle.frames.specs.declared.LoopState.TheVariants.{Running, Done, Failed}
use Rattle.frames.specs.LoopState.{unless_failed}

-- The states differ.
pub running_done : Running ≡ Done → ⊥
running_done e = let z : ◌≡◌ {A = ℕ} 0 1 = cc in omega arith

pub failed_running : (f : Failure) → Failed f ≡ Running → ⊥
failed_running f e = let z : ◌≡◌ {A = ℕ} 0 1 = cc in omega arith

pub failed_done : (f : Failure) → Failed f ≡ Done → ⊥
failed_done f e = let z : ◌≡◌ {A = ℕ} 0 1 = cc in omega arith

-- The loop goes on, or has ended, only after all was written.
pub went_on : (f : Option Failure) → unless_failed f Running ≡ Running → f ≡ None
went_on None e = refl
went_on (Some f) e = absurd (failed_running f e)

pub not_done : (f : Option Failure) → unless_failed f Running ≡ Done → ⊥
not_done None e = running_done e
not_done (Some f) e = failed_done f e

pub all_done : (f : Option Failure) → unless_failed f Done ≡ Done → f ≡ None
all_done None e = refl
all_done (Some f) e = absurd (failed_done f e)

pub not_running : (f : Option Failure) → unless_failed f Done ≢ Running
not_running None e = let z : ◌≡◌ {A = ℕ} 0 1 = cc in omega arith
not_running (Some f) e = failed_running f e

-- The loop goes on or it does not.
pub either_way : {P : Type 0} (s : LoopState) → (s ≡ Running → P) → (s ≢ Running → P) → P
either_way Running p q = p refl
either_way Done p q = q (λ e. let z : ◌≡◌ {A = ℕ} 0 1 = cc in omega arith)
either_way (Failed f) p q = q (λ e. failed_running f e)
