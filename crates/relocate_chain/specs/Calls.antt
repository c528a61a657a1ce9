-- Meaning: The calls that map a path through a relocate list by prefix replacement: validation (questions 1 to 5), then the result.
use Rattle.std.specs.Prelude.{ℕ, Bool, cond, List, [], ◌∷◌, leb, length, Result, Ok, Err, Option, Some, None}
use Rattle.text.specs.Text.{Text, written}
use Rattle.refusal.specs.declared.Refusal.TheVariants.{NoRoom}
use Rattle.refusal.specs.Refusal.{refused_or}
use Rattle.refusal.specs.Outcome.{Outcome, after_checks, checked}
use Rattle.validate.specs.Validate.{LentList, pairs_of, validate_call}
use Rattle.relocate_chain.specs.Chain.{Chained, chained, stopped, chain, shift_through_nearest_ancestor}
use Rattle.refusal.specs.declared.Refusal.{Refusal}

-- Requirements: "`shift_through_nearest_ancestor` is ported too." Questions 7 and 8 check the resulting path.
unfoldable pub shift_call : LentList → Text → ℕ → Outcome
unfolding validate_call after_checks checked shift_through_nearest_ancestor
shift_call l p room = after_checks (validate_call (l ∷ []) (p ∷ []) []) room (checked (shift_through_nearest_ancestor (pairs_of l) p))

-- The skipped source, if the flag is set.
abbrev pub skipped_source : Bool → Text → Option Text
skipped_source skips skipped = cond skips (Some skipped) None

-- The texts to validate for a skipped source: the source if there is one.
abbrev pub skip_texts : Option Text → List Text
skip_texts None = []
skip_texts (Some k) = k ∷ []

-- Requirements: "`chain_through_relocates` makes at most as many replacements as there are pairs .. We add its step count: the replacements
-- made." Question 5: "255 bytes for a path"; then the chain, "in chaining 7 and 8 to each step".
unfoldable pub chain_call : LentList → Option Text → Text → ℕ → Chained
unfolding validate_call chain
chain_call l skip p room = refused_or (validate_call (l ∷ []) (p ∷ skip_texts skip) []) stopped (cond (leb 255 room) (chain skip (pairs_of l) p) (stopped NoRoom))

-- The reply of a chaining call: the length of the last path and the number of replacements, or the refusal.
unfoldable pub chain_reply : Chained → Result (ℕ × ℕ) Refusal
chain_reply (chained q k) = Ok (length q, k)
chain_reply (stopped x) = Err x

-- The lent buffer after a chaining call: the last path over its beginning. Requirements: "A refused call writes nothing."
unfoldable pub chain_buffer : Chained → Text → Text
chain_buffer (chained q k) out = written q out
chain_buffer (stopped x) out = out
