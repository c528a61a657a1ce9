-- Meaning: The call that returns the statuses of a relocate list: validation (questions 1 to 5), then the result.
use Rattle.std.specs.Prelude.{ℕ, cond, [], ◌∷◌, leb, Result, Ok, Err}
use Rattle.text.specs.Text.{Text}
use Rattle.refusal.specs.declared.Refusal.TheVariants.{NoRoom}
use Rattle.refusal.specs.Refusal.{refused_or}
use Rattle.refusal.specs.Outcome.{written_if_accepted}
use Rattle.validate.specs.Validate.{LentList, pairs_of, validate_call}
use Rattle.relocates.specs.Status.{status_list}
use Rattle.refusal.specs.declared.Refusal.{Refusal}

-- The reply of the call. Requirements: "`analyze_relocate_occurrences` gives a status byte" for each pair. Question 5: the lent buffer
-- holds "a byte per status".
unfoldable pub analyze_reply : LentList → ℕ → Result ℕ Refusal
unfolding validate_call
analyze_reply l room = refused_or (validate_call (l ∷ []) [] []) Err (cond (leb l.count room) (Ok l.count) (Err NoRoom))

-- The lent buffer after the call: the status bytes over its beginning, or, if the call was refused, unchanged.
abbrev pub analyze_buffer : Result ℕ Refusal → LentList → Text → Text
analyze_buffer r l out = written_if_accepted r (status_list (pairs_of l) l.count) out
