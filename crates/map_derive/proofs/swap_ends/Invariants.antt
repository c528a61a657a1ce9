-- The loop. The entries of the first i pairs are written with their ends exchanged.
use mathlib.Core.Path.{◌≡◌}
use lib.ListN.{length}
use Rattle.text.specs.Text.{written}
use Rattle.map_derive.specs.SwapEnds.{swapped_entries}
use Rattle.map_derive.proofs.swap_ends.Given as goal

abbrev pub invariant-loop-i : goal.invariant-loop-i
invariant-loop-i l = (l.other ≡ written (swapped_entries l.places l.i) l.initial.other) × (length l.other ≡ length l.initial.other)
