-- Method: The intermediate values of the code for chaining: the result of the search, the result of one replacement, and the contents of the
-- scratch buffers.
use denote.Ref.{Bor}
use Rattle.std.specs.Option.{option_map}
use Rattle.std.specs.Prelude.{ℕ, ◌≤◌, length, take, Result, Ok, Err, Option, Some, None}
use Rattle.text.specs.Text.{Text, written_if_fits}
use Rattle.pair_list.specs.BestStep.{index_kept}
use Rattle.refusal.specs.Outcome.{Outcome, path, refused, checked}
use Rattle.relocate_chain.specs.declared.steps.Longest.{Longest}
use Rattle.relocate_chain.specs.Chain.{Chained, chained, stopped}
use Rattle.refusal.specs.declared.Refusal.{Refusal}

-- The skipped source that the code is given, if any.
abbrev pub skip_text : Option (Bor Text) → Option Text
skip_text k = option_map (λ (b : Bor Text). b.now) k

-- The longest source so far: the index of its pair and its number of bytes.
abbrev pub source_kept : Option Longest → Option (ℕ × ℕ)
source_kept f = option_map (λ (x : Longest). (x.at, x.bytes.0)) f

-- The index of the pair found, if one was found.
abbrev pub longest_index : Option Longest → Option ℕ
longest_index f = index_kept (source_kept f)

-- The result of a replacement that was validated by questions 7 and 8.
abbrev pub step_outcome : Outcome → Result (Option ℕ) Refusal
step_outcome (path q) = Ok (Some (length q))
step_outcome (refused x) = Err x

-- The result of one step: no replacement, or a replacement validated by questions 7 and 8.
unfoldable pub step_reply : Option Text → Result (Option ℕ) Refusal
unfolding checked
step_reply None = Ok None
step_reply (Some q) = step_outcome (checked q)

-- The scratch buffer after one step: the path made over its beginning; unchanged if no pair applied or the path does not fit.
unfoldable pub step_buffer : Option Text → Text → Text
step_buffer None out = out
step_buffer (Some q) out = written_if_fits 0 q out

-- A chain result whose path is the first `len` bytes of the buffer.
abbrev pub chain_in_buffer : Result (ℕ × ℕ) Refusal → Text → Chained
chain_in_buffer (Ok (len, steps)) mem = chained (take len mem) steps
chain_in_buffer (Err x) mem = stopped x

-- The length in a chain result is at most n.
abbrev pub chain_within : Result (ℕ × ℕ) Refusal → ℕ → Type 0
chain_within (Ok (len, steps)) n = len ≤ n
chain_within (Err x) n = Unit {0}
