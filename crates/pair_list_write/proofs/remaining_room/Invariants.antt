-- The loop. What is left and the bytes of the first i pairs make the whole capacity.
use mathlib.Core.Path.{◌≡◌}
use Prim.Native.Nat.{◌+◌}
use Rattle.pair_list.specs.Places.{pairs_in, end_bytes}
use Rattle.pair_list_write.proofs.remaining_room.Given as goal

abbrev pub invariant-loop-i : goal.invariant-loop-i
invariant-loop-i l = l.left + end_bytes (pairs_in l.store l.places l.i) ≡ l.room
