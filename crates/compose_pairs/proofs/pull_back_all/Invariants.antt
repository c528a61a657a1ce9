-- The loop. After i outer pairs the buffer holds the inner half and what those pairs add to it; each takes at most 1,534 bytes.
use mathlib.Core.Path.{◌≡◌}
use Prim.Native.Nat.{◌+◌, ◌*◌, ◌≤◌}
use lib.ListN.{length}
use Rattle.pair_list.specs.Places.{pairs_in}
use Rattle.map_spec.specs.Compose.{pulled_back}
use Rattle.map_spec.specs.Map.{lent_map}
use Rattle.pair_list_write.specs.Packed.{PackedList}
use Rattle.compose_pairs.proofs.pull_back_all.Given as goal

abbrev pub invariant-loop-i : goal.invariant-loop-i
invariant-loop-i l =
    (l.b.n ≤ l.inner + l.i) × (l.b.at ≤ 1534 * (l.inner + l.i))
    × PackedList (pulled_back (lent_map l.istore l.iplaces l.inner l.mark) (pairs_in l.initial.bytes l.initial.slots l.inner) (pairs_in l.store l.places l.i)) l.b.n l.b.at l.initial.bytes l.initial.slots l.bytes l.slots
    × (length l.bytes ≡ length l.initial.bytes) × (length l.slots ≡ length l.initial.slots)
