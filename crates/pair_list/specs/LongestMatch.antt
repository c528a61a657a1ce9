-- Meaning: The longest match: the pair of a map that applies to a path. Requirements: "Plain mapping takes, of the pairs whose key is a prefix of
-- the path, the one whose key has most elements, the later on a tie; empty keys are skipped". OpenUSD: PcpMapFunction's search for the best
-- match.
use Rattle.std.specs.Prelude.{ℕ, Bool, not, ◌&&◌, Option}
use Rattle.text.specs.Text.{Text, is_nil}
use Rattle.path_prefix.specs.Prefix.{has_prefix}
use Rattle.path_prefix.specs.Elements.{count_elements, element_count}
use Rattle.pair_list.specs.Best.{best_index}

-- Of the first n keys that pass a test, the index of the one with most elements, the later on a tie.
unfoldable pub longest_by : (Text → Bool) → (ℕ → Text) → ℕ → Option ℕ
unfolding best_index count_elements
longest_by passes key n = best_index (λ (i : ℕ). passes (key i)) (λ (i : ℕ). element_count (key i)) n

-- The key k matches the path p: it is a nonempty prefix of it.
unfoldable pub matches : Text → Text → Bool
unfolding has_prefix
matches p k = not (is_nil k) && has_prefix p k

-- The longest match for the path p among the first n keys, by its index.
unfoldable pub longest_match : Text → (ℕ → Text) → ℕ → Option ℕ
unfolding longest_by matches
longest_match p key n = longest_by (matches p) key n
