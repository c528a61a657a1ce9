-- The loop. The best so far is the longest match among the first i keys.
use Rattle.map_lookup.proofs.LookupBranches.{match_kept}
use mathlib.Core.Path.{◌≡◌}
use Prim.Native.Nat.{◌+◌, ◌*◌, ◌≤◌}
use lib.ListN.{length}
use Rattle.pair_list.specs.Places.{key_at}
use Rattle.pair_list.specs.LongestMatch.{longest_match}
use Rattle.map_lookup.proofs.best_prefix.Given as goal

abbrev pub invariant-loop-i : goal.invariant-loop-i
invariant-loop-i l = (4 * l.present + l.offset ≤ length l.places + 2) × (l.limit ≤ length l.store) × (l.limit ≤ length l.path)
    × (l.f ≡ match_kept (key_at l.store l.places l.invert) (longest_match l.path (key_at l.store l.places l.invert) l.i))
