-- The loop. The lengths of the first i paths are written, and n is the length of the next one.
-- Invariant: the first i lengths are written, and the next one is n.
use Rattle.path_parts.proofs.ScanLaws.{Ahead}
use mathlib.Core.Path.{◌≡◌}
use Prim.Native.Nat.{◌≤◌}
use lib.ListN.{length}
use lib.Seq.{paste}
use Rattle.path_parts.specs.Parent.{ancestor_lens}
use Rattle.path_parts.proofs.write_ancestors.Given as goal

abbrev pub invariant-loop-i : goal.invariant-loop-i
invariant-loop-i l = (l.n ≤ length l.path) × Ahead l.path l.i l.n × (l.out ≡ paste l.initial.out 0 (ancestor_lens l.path) l.i)
