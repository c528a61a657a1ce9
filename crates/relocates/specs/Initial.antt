-- Method: An intermediate result of the code: the statuses before the search for conflicts, in a scratch buffer.
use Rattle.std.specs.Prelude.{◌≡◌, ℕ, ◌<◌, List, length, get_or}
use Rattle.pair_list.specs.Pair.{Pair}
use Rattle.relocates.specs.declared.RelocateOccurrence.TheVariants.{Active}
use Rattle.relocates.specs.Status.{status_byte, occurrence_or, status_bytes}

-- The status bytes of the first n pairs before the search for conflicts: 0, 1 or 2.
unfoldable pub initial_statuses : List Pair → ℕ → List ℕ
unfolding occurrence_or
initial_statuses l n = status_bytes (occurrence_or Active l) n

-- The buffer `first` holds these status bytes for every pair of the list.
unfoldable pub HoldsInitialStatuses : List Pair → List ℕ → Type 0
unfolding occurrence_or
HoldsInitialStatuses l first = (i : ℕ) → i < length l → get_or first i 0 ≡ status_byte (occurrence_or Active l i)
