-- The loop. The first i counts are written, and `top` is their maximum.
use mathlib.Core.Path.{◌≡◌}
use Prim.Native.Nat.{◌≤◌}
use lib.ListN.{length}
use Rattle.map_canonical.specs.Canonical.{max_elements, HoldsElementCounts}
use Rattle.map_canonical.proofs.fill_element_counts.Given as goal

abbrev pub invariant-loop-i : goal.invariant-loop-i
invariant-loop-i l = (l.n ≤ length l.keys) × HoldsElementCounts l.store l.places l.i l.keys × (l.top.0 ≡ max_elements l.store l.places l.i) × (length l.keys ≡ length l.initial.keys)
