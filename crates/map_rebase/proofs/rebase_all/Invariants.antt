-- The loop. After i pairs the buffer holds their rebased form; each takes at most 766 bytes.
use Rattle.map_rebase.specs.Calls.{rebased_pairs}
use Rattle.pair_list_write.specs.Packed.{HoldsList}
use Rattle.pair_list.specs.Places.{pairs_in}
use Prim.Native.Nat.{◌*◌, ◌≤◌}
use lib.ListN.{length}
use mathlib.Core.Path.{◌≡◌}
use Rattle.map_rebase.proofs.rebase_all.Given as goal

abbrev pub invariant-loop-i : goal.invariant-loop-i
invariant-loop-i l = (l.at ≤ 766 * l.i) × HoldsList (rebased_pairs l.from l.to (pairs_in l.store l.places l.i)) l.i l.at l.bytes l.slots × (length l.bytes ≡ length l.initial.bytes) × (length l.slots ≡ length l.initial.slots)
