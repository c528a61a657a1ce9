-- Meaning: The outcome of a call that writes a path. Its reply and the contents of the lent buffer afterwards are both derived from this one value.
use Rattle.std.specs.Prelude.{◌≡◌, ℕ, cond, List, leb, length, Result, Ok, Err, Option, Some, None, ⊤}
use Rattle.text.specs.Text.{Text, written}
use Rattle.path_grammar.specs.Legal.{legal, at_most255}
use Rattle.refusal.specs.declared.Refusal.{Refusal}
use Rattle.refusal.specs.declared.Refusal.TheVariants.{NoRoom, NoPath, MadeTooLong, MadeIllegal}
use Rattle.refusal.specs.Refusal.{refused_or}

-- The path that the call writes, or its refusal.
pub data Outcome : Type 0 where
  path : Text → Outcome
  refused : Refusal → Outcome

-- The reply of a call with this outcome.
unfoldable pub outcome_reply : Outcome → Result ℕ Refusal
outcome_reply (path q) = Ok (length q)
outcome_reply (refused x) = Err x

-- The lent buffer after a call with this outcome. Requirements: "A refused call writes nothing." "Written memory is the answer's own bytes;
-- the rest keeps its old values."
unfoldable pub outcome_buffer : Outcome → Text → Text
outcome_buffer (path q) out = written q out
outcome_buffer (refused x) out = out

-- Question 5, for a lent buffer of capacity `room`. Requirements: "255 bytes for a path".
unfoldable pub require_room : ℕ → Outcome → Outcome
require_room room o = cond (leb 255 room) o (refused NoRoom)

-- The outcome of a call that writes a path: first the result a of the questions before 5, then question 5, then the outcome o of building
-- the path.
unfoldable pub after_checks : Result ⊤ Refusal → ℕ → Outcome → Outcome
unfolding require_room
after_checks a room o = refused_or a refused (require_room room o)

-- Questions 7 and 8, for a path that was built. Requirements: "Is every path made at most 255 bytes? .. legal?"
unfoldable pub checked : Text → Outcome
unfolding at_most255 legal
checked q = cond (at_most255 q) (cond (legal q) (path q) (refused MadeIllegal)) (refused MadeTooLong)

-- Question 6, then questions 7 and 8. Requirements: "Does the definition give a path (the Rust's None otherwise)?"
unfoldable pub checked_option : Option Text → Outcome
unfolding checked
checked_option None = refused NoPath
checked_option (Some q) = checked q

-- The lent slice of lengths after a call: the lengths over its beginning; a refused call writes nothing.
abbrev pub written_if_accepted : Result ℕ Refusal → List ℕ → List ℕ → List ℕ
written_if_accepted (Ok n) lens out = written lens out
written_if_accepted (Err x) lens out = out

-- A call that writes a path returned what the outcome says: its reply, and the lent buffer before and after the call.
abbrev pub ReturnsPath : Outcome → Result ℕ Refusal → Text → Text → Type 0
ReturnsPath o r before after = (r ≡ outcome_reply o) × (after ≡ outcome_buffer o before)
