-- Method: Pairs that the code selects from a lent list and copies to a buffer for 64 pairs (256 numbers): when that is possible, and which pairs
-- the buffer then holds.
use Rattle.std.specs.Prelude.{ℕ, Bool, cond, ◌&&◌, List, [], leb}
use Rattle.pair_list.specs.Pair.{Pair}
use Rattle.validate.specs.Validate.{LentList, count_within_limit}

-- The list passes question 4, and the buffer has capacity for 64 pairs.
unfoldable pub can_select : LentList → ℕ → Bool
unfolding count_within_limit
can_select l room = count_within_limit l && leb 256 room

-- The pairs that the buffer holds: those given, or none if they cannot be copied.
unfoldable pub pairs_if_selectable : LentList → ℕ → List Pair → List Pair
unfolding can_select
pairs_if_selectable l room pairs = cond (can_select l room) pairs []
