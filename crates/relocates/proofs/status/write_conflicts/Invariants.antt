-- The loops. The final statuses of the first i pairs are written; none of the first j pairs is a reason to drop pair i.
use mathlib.Core.Path.{◌≡◌}
use mathlib.Core.Bool.{false}
use Rattle.text.specs.Text.{written}
use Rattle.pair_list.specs.Places.{pairs_in}
use Rattle.relocates.specs.Status.{any_below, status_list}
use Rattle.relocates.proofs.InitialBranches.{reason}
use Rattle.relocates.proofs.status.write_conflicts.Given as goal

abbrev pub invariant-pairs : goal.invariant-pairs
invariant-pairs l = l.out ≡ written (status_list (pairs_in l.store l.places l.n) l.i) l.initial.out

abbrev pub invariant-loop-j : goal.invariant-loop-j
invariant-loop-j l = (l.out ≡ l.initial.out) × (any_below l.j (reason l.store l.places l.first l.i) ≡ false)
