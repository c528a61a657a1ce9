-- Meaning: Pairs of paths, and questions 1 and 3 for a list of pairs.
use Rattle.std.specs.Prelude.{Bool, true, not, ◌&&◌, List, [], ◌∷◌, ℕ, get_or}
use Rattle.text.specs.Text.{Text, is_nil}
use Rattle.path_grammar.specs.Legal.{at_most255, is_end}

-- A pair of paths. Its source and its target are its ends.
pub record Pair : Type 0 where
  pub source : Text
  pub target : Text

-- The pair of s and t.
abbrev pub pair : Text → Text → Pair
pair s t = record { source = s; target = t }

-- The pair of two empty paths, used for an index outside a list.
abbrev pub empty_pair : Pair
empty_pair = pair [] []

-- Pair i of a list.
abbrev pub pair_at : List Pair → ℕ → Pair
pair_at l i = get_or l i empty_pair

-- The source of pair i.
abbrev pub source_at : List Pair → ℕ → Text
source_at l i = (pair_at l i).source

-- The target of pair i.
abbrev pub target_at : List Pair → ℕ → Text
target_at l i = (pair_at l i).target

-- The ends of the pairs: the source and the target of each, in turn.
unfoldable pub ends_of : List Pair → List Text
ends_of [] = []
ends_of (x ∷ xs) = x.source ∷ x.target ∷ ends_of xs

-- Every end of every pair passes a test.
unfoldable pub every_end : (Text → Bool) → List Pair → Bool
every_end passes [] = true
every_end passes (x ∷ xs) = passes x.source && passes x.target && every_end passes xs

-- Question 1 for a list. Requirements: "Is every path text at most 255 bytes?"
unfoldable pub all_short : List Pair → Bool
unfolding every_end at_most255
all_short l = every_end at_most255 l

-- Question 3 for a list. Requirements: "Is every end a prim path, `/` or empty?"
unfoldable pub all_ends : List Pair → Bool
unfolding every_end is_end
all_ends l = every_end is_end l

-- No pair has an empty source.
unfoldable pub no_empty_source : List Pair → Bool
no_empty_source [] = true
no_empty_source (x ∷ xs) = not (is_nil x.source) && no_empty_source xs
