-- The loop. The sources with fewer than e elements are done: what is kept is what the definition keeps of those levels.
use mathlib.Core.Path.{◌≡◌}
use Prim.Native.Nat.{◌≤◌}
use lib.ListN.{length}
use Rattle.pair_list_write.specs.Select.{HoldsEntries}
use Rattle.map_spec.specs.New.{is_redundant}
use Rattle.map_canonical.specs.Canonical.{max_elements, HoldsElementCounts}
use Rattle.map_canonical.proofs.LevelBranches.{below}
use Rattle.map_canonical.proofs.canonicalize.Given as goal

abbrev pub invariant-loop-e : goal.invariant-loop-e
invariant-loop-e l = HoldsEntries l.places (below l.store l.places l.n is_redundant l.mark l.initial.kept l.e) l.initial.kept l.kept l.w × HoldsElementCounts l.store l.places l.n l.keys × (l.top.0 ≡ max_elements l.store l.places l.n) × (256 ≤ length l.kept) × (length l.kept ≡ length l.initial.kept)
