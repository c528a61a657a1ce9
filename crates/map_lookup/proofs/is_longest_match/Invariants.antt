-- The loop. None of the first k keys would be selected instead of key i.
use Prim.Native.Nat.{◌+◌, ◌*◌, ◌≤◌}
use lib.ListN.{length}
use Rattle.pair_list.specs.Places.{key_at}
use Rattle.map_lookup.proofs.OtherWinsBranches.{Unrivalled}
use Rattle.map_lookup.proofs.is_longest_match.Given as goal

abbrev pub invariant-loop-k : goal.invariant-loop-k
invariant-loop-k l = (4 * l.present + l.offset ≤ length l.places + 2) × (l.limit ≤ length l.store) × (l.limit ≤ length l.path) × Unrivalled l.path (key_at l.store l.places l.invert) l.i l.k
