-- The loop. At most as many brackets are open as bytes were read, and the byte sought was not read yet.
use Prim.Native.Nat.{◌≤◌}
use Rattle.path_target.proofs.TargetBranches.{Reached}
use Rattle.path_target.proofs.close_len.Given as goal

abbrev pub invariant-loop-i : goal.invariant-loop-i
invariant-loop-i l = (l.depth ≤ l.i) × Reached l.text l.depth l.i
