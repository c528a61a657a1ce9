-- Method: The Active pairs of a lent list, as indices into the list. proofs/ActiveLaws.antt proves that they select the pairs of `active`.
use Rattle.std.specs.Prelude.{ℕ, cond, List, [], eqb}
use Rattle.pair_list.specs.Pair.{Pair}
use Rattle.pair_list_write.specs.Select.{indices_where}
use Rattle.validate.specs.Validate.{LentList, pairs_of}
use Rattle.validate.specs.Select.{can_select}
use Rattle.relocates.specs.Status.{status_byte, occurrence}

-- The indices of the Active pairs among the first n.
unfoldable pub active_indices : List Pair → ℕ → List ℕ
unfolding indices_where occurrence
active_indices l n = indices_where (λ (i : ℕ). eqb (status_byte (occurrence l i)) 0) n

-- The indices of the Active pairs of a lent list; none if question 4 refuses the list or the capacity is less than 64 pairs.
unfoldable pub active_selection : LentList → ℕ → List ℕ
unfolding can_select active_indices
active_selection l room = cond (can_select l room) (active_indices (pairs_of l) l.count) []
