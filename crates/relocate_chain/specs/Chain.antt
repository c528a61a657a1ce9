-- Meaning: Chaining: replacing prefixes of a path by the pairs of a relocate list, one pair after another. Requirements: "maps measure a key in
-- elements, chaining measures it in bytes".
use Rattle.std.specs.Option.{unwrap_or, is_some}
use Rattle.std.specs.Prelude.{ℕ, zero, suc, Bool, true, false, cond, List, length, Option, Some, None}
use Rattle.text.specs.Text.{Text, is_nil, equal}
use Rattle.path_join.specs.Join.{replace_prefix}
use Rattle.pair_list.specs.Pair.{Pair, pair_at, source_at}
use Rattle.pair_list.specs.Best.{best_index}
use Rattle.refusal.specs.declared.Refusal.{Refusal}
use Rattle.refusal.specs.Outcome.{Outcome, path, refused, checked}

-- The index of the pair among the first n that yields a path and whose source is "longest in bytes, the last on a tie".
unfoldable pub longest_source : (Pair → Option Text) → List Pair → ℕ → Option ℕ
unfolding best_index
longest_source replacement l n = best_index (λ (i : ℕ). is_some (replacement (pair_at l i))) (λ (i : ℕ). length (source_at l i)) n

-- The path that the pair found yields; none if no pair was found.
abbrev pub replacement_at : (Pair → Option Text) → List Pair → Option ℕ → Option Text
replacement_at replacement l None = None
replacement_at replacement l (Some i) = replacement (pair_at l i)

-- The path that the pair with the longest source yields; none if no pair yields one.
unfoldable pub longest_replacement : (Pair → Option Text) → List Pair → Option Text
unfolding longest_source
longest_replacement replacement l = replacement_at replacement l (longest_source replacement l (length l))

-- Whether the pairs with source s are skipped. Requirements: "pairs with the skipped source, where the caller names one, are left aside".
unfoldable pub is_skipped : Option Text → Text → Bool
unfolding equal
is_skipped None s = false
is_skipped (Some k) s = equal s k

-- The path made, if it differs from p.
unfoldable pub if_altered : Text → Option Text → Option Text
unfolding equal
if_altered p None = None
if_altered p (Some q) = cond (equal q p) None (Some q)

-- The path that a pair yields: none if its target is empty or its source is skipped, and, if `alters` is set, none if the path stays the
-- same.
unfoldable pub replacement : Bool → Option Text → Text → Pair → Option Text
unfolding is_skipped if_altered replace_prefix
replacement alters skip p x =
    cond (is_nil x.target) None
    (cond (is_skipped skip x.source) None
    (cond alters (if_altered p (replace_prefix p x.source x.target)) (replace_prefix p x.source x.target)))

-- The path after one replacement. Requirements: "among non-empty targets that alter the path".
unfoldable pub next_replacement : Option Text → List Pair → Text → Option Text
unfolding longest_replacement replacement
next_replacement skip l p = longest_replacement (replacement true skip p) l

-- The result of a chain: the last path with the number of replacements made, or the refusal.
pub data Chained : Type 0 where
  chained : Text → ℕ → Chained
  stopped : Refusal → Chained

-- Continues the chain with the path made by a replacement, or ends it with the refusal of that replacement.
abbrev pub continue_chain : (Text → ℕ → Chained) → ℕ → Outcome → Chained
continue_chain on k (path q) = on q (suc k)
continue_chain on k (refused x) = stopped x

-- Continues the chain after a search for a replacement: without one, the chain ends at p. Requirements: "in chaining 7 and 8 to each step".
unfoldable pub chain_step : (Text → ℕ → Chained) → Text → ℕ → Option Text → Chained
unfolding checked
chain_step on p k None = chained p k
chain_step on p k (Some q) = continue_chain on k (checked q)

-- The chain from p after k replacements, with at most n more. Requirements: "at most as many replacements as there are pairs".
unfoldable pub chain_from : Option Text → List Pair → ℕ → Text → ℕ → Chained
unfolding next_replacement chain_step
chain_from skip l zero p k = chained p k
chain_from skip l (suc n) p k = chain_step (chain_from skip l n) p k (next_replacement skip l p)

-- Follows a path through a relocate list. The bound on the number of replacements ends the chain on a cyclic list. (Rust: chain_through_relocates)
unfoldable pub chain : Option Text → List Pair → Text → Chained
unfolding chain_from
chain skip l p = chain_from skip l (length l) p 0

-- Applies, once, the nearest rename above the endpoint; pairs with the endpoint itself as their source are skipped; without such a rename,
-- the endpoint itself. (Rust: shift_through_nearest_ancestor)
unfoldable pub shift_through_nearest_ancestor : List Pair → Text → Text
unfolding longest_replacement replacement
shift_through_nearest_ancestor l p = unwrap_or (longest_replacement (replacement false (Some p) p) l) p
