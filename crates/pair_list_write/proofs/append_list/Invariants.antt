-- The loop. The bytes and the places of the first i pairs are written, one after the other from byte `at`.
use mathlib.Core.Path.{◌≡◌}
use Prim.Native.Nat.{◌+◌, ◌≤◌}
use lib.ListN.{length}
use Rattle.pair_list.specs.Places.{pairs_in, end_bytes}
use Rattle.pair_list_write.proofs.PushBranches.{Appended}
use Rattle.pair_list_write.proofs.append_list.Given as goal

abbrev pub invariant-loop-i : goal.invariant-loop-i
invariant-loop-i l = (l.at + end_bytes (pairs_in l.store l.places l.n) ≤ length l.initial.out) × Appended l.store l.places l.at l.initial.out l.initial.slots l.i l.end l.out l.slots × (length l.out ≡ length l.initial.out) × (length l.slots ≡ length l.initial.slots)
