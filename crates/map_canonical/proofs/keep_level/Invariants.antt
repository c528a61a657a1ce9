-- The loop. Of the first i pairs those of this level are kept or dropped as the definition says, and there is room for the others.
use mathlib.Core.Path.{◌≡◌}
use Prim.Native.Nat.{◌≤◌, ◌+◌}
use lib.ListN.{length}
use Rattle.map_spec.specs.New.{is_redundant}
use Rattle.map_canonical.specs.Canonical.{non_root_with_elements}
use Rattle.map_canonical.proofs.LevelBranches.{After}
use Rattle.map_canonical.proofs.keep_level.Given as goal

abbrev pub invariant-loop-i : goal.invariant-loop-i
invariant-loop-i l = After l.store l.places l.e.0 is_redundant l.mark l.initial.kept l.w l.i l.kept l.k × (l.k ≤ l.w + length (non_root_with_elements l.store l.places l.e.0 l.i)) × (length l.kept ≡ length l.initial.kept)
