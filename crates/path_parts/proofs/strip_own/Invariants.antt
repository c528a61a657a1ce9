-- The loop. The first i bytes are read, and their stripped form is in the first j bytes of the buffer.
-- Invariant: before byte i, j bytes are written, and the output for the remainder of the path is still to be written.
use Rattle.path_parts.proofs.EmitLaws.{Sofar}
use Prim.Native.Nat.{◌≤◌}
use Rattle.path_parts.proofs.strip_own.Given as goal

abbrev pub invariant-loop-i : goal.invariant-loop-i
invariant-loop-i l = (l.j ≤ l.i) × Sofar l.own l.initial.out l.out l.inside l.i l.j
