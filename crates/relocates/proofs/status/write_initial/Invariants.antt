-- The loop. The statuses of the first i pairs are written, conflicts aside.
use mathlib.Core.Path.{◌≡◌}
use Rattle.text.specs.Text.{written}
use Rattle.pair_list.specs.Places.{pairs_in}
use Rattle.relocates.specs.Initial.{initial_statuses}
use Rattle.relocates.proofs.status.write_initial.Given as goal

abbrev pub invariant-loop-i : goal.invariant-loop-i
invariant-loop-i l = l.out ≡ written (initial_statuses (pairs_in l.store l.places l.n) l.i) l.initial.out
