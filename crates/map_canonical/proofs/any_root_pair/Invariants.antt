-- The loop. None of the first i pairs is `/`→`/`.
use mathlib.Core.Path.{◌≡◌}
use mathlib.Core.Bool.{false}
use Rattle.pair_list.specs.Places.{pairs_in}
use Rattle.map_spec.specs.New.{any_root_pair}
use Rattle.map_canonical.proofs.any_root_pair.Given as goal

abbrev pub invariant-loop-i : goal.invariant-loop-i
invariant-loop-i l = false ≡ any_root_pair (pairs_in l.store l.places l.i)
