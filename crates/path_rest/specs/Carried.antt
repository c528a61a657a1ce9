-- Meaning: The reply of a call that writes a path and tells which part of the path given was carried over unaltered. Requirements: "plain mapping
-- gives back that rest as a part of the text the caller handed in, beside the path made", "A refused call gives the empty part too".
use Rattle.std.specs.Prelude.{◌≡◌, Result, Ok, Err, Option, None, ℕ}
use Rattle.text.specs.Text.{Text}
use Rattle.refusal.specs.Outcome.{Outcome, outcome_reply, outcome_buffer}
use Rattle.refusal.specs.declared.Refusal.{Refusal}

-- The reply with the rest beside the length of the path written; a refusal has no rest.
unfoldable pub with_rest : Result ℕ Refusal → Option ℕ → Result (ℕ × Option ℕ) Refusal
with_rest (Ok n) rest = Ok (n, rest)
with_rest (Err x) rest = Err x

-- The reply without the rest, for callers that do not want it.
unfoldable pub reply_of : Result (ℕ × Option ℕ) Refusal → Result ℕ Refusal
reply_of (Ok (n, rest)) = Ok n
reply_of (Err x) = Err x

-- The rest of a reply; none for a refusal.
unfoldable pub carried_rest : Result (ℕ × Option ℕ) Refusal → Option ℕ
carried_rest (Ok (n, rest)) = rest
carried_rest (Err x) = None

-- A call that writes a path returned what the outcome and the rest say: its reply, and the lent buffer before and after the call.
abbrev pub ReturnsCarried : Outcome → Option ℕ → Result (ℕ × Option ℕ) Refusal → Text → Text → Type 0
ReturnsCarried o rest c before after = (c ≡ with_rest (outcome_reply o) rest) × (after ≡ outcome_buffer o before)
