-- Laws of replies with a rest.
use Rattle.std.specs.Prelude.{Result, Ok, Err, Option}
use mathlib.Core.Path.{◌≡◌, refl, ap, ◌∙◌}
use Prim.Native.Nat.{ℕ}
use native.Mathlib.Omega.{arith}
use Rattle.text.specs.Text.{Text}
use Rattle.refusal.specs.declared.Refusal.{Refusal}
use Rattle.refusal.specs.Outcome.{Outcome, path, refused, outcome_reply, outcome_buffer, ReturnsPath}
use Rattle.path_rest.specs.Carried.{with_rest, reply_of, carried_rest, ReturnsCarried}

-- Without the rest, the reply is what it was.
pub reply_with : (r : Result ℕ Refusal) (rest : Option ℕ) → reply_of (with_rest r rest) ≡ r
unfolding reply_of with_rest
reply_with (Ok n) rest = refl
reply_with (Err x) rest = refl

-- The rest of a reply that is no refusal is the one that it was given.
pub known_rest : (r : Result ℕ Refusal) (rest : Option ℕ) (c : Result (ℕ × Option ℕ) Refusal) → c ≡ with_rest r rest → (n : ℕ) → reply_of c ≡ Ok n → carried_rest c ≡ rest
unfolding with_rest reply_of carried_rest
known_rest (Ok k) rest c e n h = rw e
known_rest (Err x) rest c e n h = absurd (let z : ◌≡◌ {A = ℕ} 0 1 = let v : Err x ≡ Ok n = rw e at h in cc in omega arith)

-- Of two rests that agree if the outcome is a path, either may stand beside the reply.
pub rest_if_path : (o : Outcome) (a b : Option ℕ) → ((q : Text) → o ≡ path q → a ≡ b) → with_rest (outcome_reply o) a ≡ with_rest (outcome_reply o) b
unfolding with_rest outcome_reply
rest_if_path (path q) a b same = rw (same q refl)
rest_if_path (refused x) a b same = refl

-- The reply of a call and the contents of the buffer, once its outcome and its rest are known.
module _ (o : Outcome) (rest : Option ℕ) where
  pub refusing_carried : (x : Refusal) → o ≡ refused x → (out : Text) → ReturnsCarried o rest (Err x) out out
  unfolding outcome_reply outcome_buffer with_rest
  refusing_carried x e out = rw e (refl, refl)

  pub answering_carried : (m : Outcome) (known : Option ℕ) → o ≡ m → rest ≡ known → (r : Result ℕ Refusal) (c : Result (ℕ × Option ℕ) Refusal) (out out' : Text)
      → c ≡ with_rest r known → ReturnsPath m r out out' → ReturnsCarried o rest c out out'
  answering_carried m known e k r c out out' h w = rw (e, k) (h ∙ ap (λ (x : Result ℕ Refusal). with_rest x known) w.0, w.1)

  pub same_carried : (m : Outcome) (known : Option ℕ) → o ≡ m → rest ≡ known → (c : Result (ℕ × Option ℕ) Refusal) (out out' : Text) → ReturnsCarried m known c out out'
      → ReturnsCarried o rest c out out'
  same_carried m known e k c out out' w = rw (e, k) w

  -- A caller that does not want the rest gets the reply and the same buffer.
  pub without_rest : (c : Result (ℕ × Option ℕ) Refusal) (r : Result ℕ Refusal) (out out' : Text) → r ≡ reply_of c → ReturnsCarried o rest c out out' → ReturnsPath o r out out'
  without_rest c r out out' h w = (h ∙ ap reply_of w.0 ∙ reply_with (outcome_reply o) rest, w.1)
