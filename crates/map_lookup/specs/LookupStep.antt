-- Method: The steps of the search for the longest match: what it keeps, and which keys it skips.
use Rattle.std.specs.Prelude.{◌≡◌, ℕ, ◌+◌, ◌/◌, Bool, true, false, not, cond, ◌&&◌, ◌||◌, List, [], eqb, leb, ltb, length, take, drop, Option, Some, None}
use Rattle.text.specs.Text.{Text}
use Rattle.path_prefix.specs.Prefix.{has_prefix}
use Rattle.path_prefix.specs.Elements.{count_elements, element_count}
use Rattle.map_lookup.specs.declared.BestSoFar.{BestSoFar}
use Rattle.pair_list.specs.LongestMatch.{matches}

-- The key k has at least as many elements as the match so far, which covers the first n bytes of the path p. Elements are counted only if k
-- covers fewer bytes.
unfoldable pub not_worse : Text → ℕ → Text → Bool
unfolding count_elements
not_worse p n k = leb n (length k) || leb (element_count (take n p)) (element_count k)

-- Theorem (proofs/LookupBranches.antt): the bytes covered decide nothing that the elements would decide otherwise. Of two prefixes of one path,
-- the one that covers more bytes has no fewer elements.
abbrev pub CoveredDecidesAlike : Type 0
CoveredDecidesAlike = (p s k : Text) → has_prefix p s ≡ true → has_prefix p k ≡ true → not_worse p (length s) k ≡ leb (element_count s) (element_count k)

-- The match after the key k at index i was considered: that key if it matches and has at least as many elements as the match so far, f.
unfoldable pub consider_key : BestSoFar → Text → Text → ℕ → BestSoFar
unfolding matches not_worse
consider_key f p k i = cond (matches p k && not_worse p f.covered k) (record { at = i; covered = length k }) f

-- The selected index is i.
abbrev pub is_index : ℕ → Option ℕ → Bool
is_index i None = false
is_index i (Some j) = eqb i j

-- The text t would be selected instead of the key; `before` states whether it comes before the key in the list.
unfoldable pub wins : Text → Text → Bool → Text → Bool
unfolding matches count_elements
wins p t before key = matches p t && cond before (ltb (element_count key) (element_count t)) (leb (element_count key) (element_count t))

-- The text at index k, other than the key at index i, would be selected instead of that key.
unfoldable pub other_wins : Text → Text → ℕ → ℕ → Text → Bool
unfolding wins
other_wins p t k i key = not (eqb k i) && wins p t (ltb k i) key

-- The text of n bytes from `start`; empty if it reaches outside the store, as for `text_at`.
unfoldable pub substring : Text → ℕ → ℕ → Text
substring store start n = cond (leb (start + n) (length store)) (take n (drop start store)) []

-- The number of pairs whose key lies in the slice, which may end after a source; all further keys are empty.
unfoldable pub key_count : List ℕ → Bool → ℕ
key_count places invert = (length places / 2 + cond invert 0 1) / 2
