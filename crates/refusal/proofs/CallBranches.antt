-- Lemmas for the branches of the calls.
use Rattle.std.specs.Prelude.{Result, Ok, Err, Option, None, ⊤}
use Rattle.std.specs.Option.{ok_or}
use mathlib.Core.Path.{◌≡◌, refl, ap}
use Prim.Native.Nat.{ℕ, ◌≤◌, ◌<◌}
use borrow.Author.Tests.{le-leb, lt-leb}
use Rattle.text.specs.Text.{Text}
use Rattle.refusal.specs.declared.Refusal.{Refusal}
use Rattle.refusal.specs.declared.Refusal.TheVariants.{NoRoom}
use Rattle.refusal.specs.Refusal.{refused_or}
use Rattle.refusal.specs.Outcome.{Outcome, refused, outcome_reply, outcome_buffer, require_room, after_checks}

-- For a reply of any type: a refusal is returned unchanged, and a call whose validation passed returns its answer.
module _ {A : Type 0} (refuse : Refusal → A) (answer : A) (a q : Result ⊤ Refusal) where
  pub unless_refused : (x : Refusal) → q ≡ a → q ≡ Err x → refuse x ≡ refused_or a refuse answer
  unless_refused x h k = rw (← h, k)

  pub unless_passed : (y : A) → q ≡ a → q ≡ Ok tt → y ≡ answer → y ≡ refused_or a refuse answer
  unless_passed y h k e = rw (← h, k) e

-- `ok_or` refuses with the refusal that it is given.
pub ok_or_refused : {T : Type 0} (o : Option T) (e x : Refusal) → o ≡ None → ◌≡◌ {A = Result T Refusal} (Err x) (ok_or o e) → x ≡ e
ok_or_refused {T} o e x h k = let z : ◌≡◌ {A = Result T Refusal} (Err x) (Err e) = rw h at k in cc

-- A call that writes a path.
module _ (a : Result ⊤ Refusal) (room : ℕ) (o : Outcome) where
  module _ (q : Result ⊤ Refusal) (h : q ≡ a) where
    pub answered_refused : (x : Refusal) → q ≡ Err x → after_checks a room o ≡ refused x
    unfolding after_checks
    answered_refused x k = rw (← h, k)

    pub answered_short : q ≡ Ok tt → room < 255 → after_checks a room o ≡ refused NoRoom
    unfolding after_checks require_room
    answered_short k l = rw (← h, k, lt-leb 255 room l)

    pub answered_passed : q ≡ Ok tt → 255 ≤ room → after_checks a room o ≡ o
    unfolding after_checks require_room
    answered_passed k l = rw (← h, k, le-leb 255 room l)

  -- Outcomes that agree once validation has passed yield the same outcome of the call.
  pub answered_same : (o' : Outcome) → (a ≡ Ok tt → o ≡ o') → after_checks a room o ≡ after_checks a room o'
  unfolding after_checks
  answered_same o' f = go a refl
    where
      go : (b : Result ⊤ Refusal) → a ≡ b → refused_or b refused (require_room room o) ≡ refused_or b refused (require_room room o')
      go (Ok tt) e = ap (λ (x : Outcome). require_room room x) (f e)
      go (Err x) e = refl

-- The reply of the call and the contents of the buffer, once its outcome is known.
pub refusing : (o : Outcome) (x : Refusal) → o ≡ refused x → (out : Text) → (Err x ≡ outcome_reply o) × (out ≡ outcome_buffer o out)
unfolding outcome_reply outcome_buffer
refusing o x e out = rw e (refl, refl)

pub answering : (o m : Outcome) → o ≡ m → (r : Result ℕ Refusal) (out out' : Text) → (r ≡ outcome_reply m) × (out' ≡ outcome_buffer m out) → (r ≡ outcome_reply o) × (out' ≡ outcome_buffer o out)
answering o m e r out out' w = rw e w
