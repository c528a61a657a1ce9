-- The loop. Of the first i pairs the Active ones are kept.
use Rattle.pair_list.specs.Places.{pairs_in}
use Rattle.pair_list_write.specs.Select.{HoldsEntries}
use Rattle.relocates.specs.Select.{active_indices}
use Rattle.relocates.proofs.status.active_pairs.Given as goal

abbrev pub invariant-loop-i : goal.invariant-loop-i
invariant-loop-i l = HoldsEntries l.places (active_indices (pairs_in l.store l.places l.n) l.i) l.initial.kept l.kept l.w
