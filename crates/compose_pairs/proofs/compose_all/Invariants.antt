-- The loop. After i inner pairs the buffer holds their images under the outer map; each takes at most 1,534 bytes.
use mathlib.Core.Path.{◌≡◌}
use mathlib.Core.List.{map}
use Prim.Native.Nat.{◌*◌, ◌≤◌}
use lib.ListN.{length}
use Rattle.pair_list.specs.Places.{pairs_in}
use Rattle.map_spec.specs.Compose.{composed_pair}
use Rattle.map_spec.specs.Map.{lent_map}
use Rattle.pair_list_write.specs.Packed.{PackedList}
use Rattle.compose_pairs.proofs.compose_all.Given as goal

abbrev pub invariant-loop-i : goal.invariant-loop-i
invariant-loop-i l = (l.at ≤ 1534 * l.i) × PackedList (map (composed_pair (lent_map l.store l.places l.count l.mark)) (pairs_in l.istore l.iplaces l.i)) l.i l.at l.initial.bytes l.initial.slots l.bytes l.slots × (length l.bytes ≡ length l.initial.bytes) × (length l.slots ≡ length l.initial.slots)
