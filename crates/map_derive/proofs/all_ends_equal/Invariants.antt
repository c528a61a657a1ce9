-- The loop. The first i pairs have equal ends.
use mathlib.Core.Path.{◌≡◌}
use mathlib.Core.Bool.{true}
use Rattle.pair_list.specs.Places.{pairs_in}
use Rattle.map_derive.specs.Calls.{all_ends_equal}
use Rattle.map_derive.proofs.all_ends_equal.Given as goal

abbrev pub invariant-loop-i : goal.invariant-loop-i
invariant-loop-i l = true ≡ all_ends_equal (pairs_in l.store l.places l.i)
