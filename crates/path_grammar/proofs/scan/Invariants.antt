-- The loop. The number s holds the state of the automaton after i bytes, and `seen` combines these bytes.
use Prim.Native.Nat.{◌≤◌, ◌-◌}
use lib.ListN.{length}
use Rattle.path_grammar.proofs.ScanLaws.{Reads}
use Rattle.path_grammar.proofs.CodeLaws.{Seen}
use Rattle.path_grammar.proofs.scan.Given as goal

abbrev pub invariant-loop-i : goal.invariant-loop-i
invariant-loop-i l = (l.i ≤ length l.p) × Reads l.p l.s l.i × Seen l.p l.seen l.i

abbrev pub decreases-loop-i : goal.decreases-loop-i
decreases-loop-i l = length l.p - l.i
