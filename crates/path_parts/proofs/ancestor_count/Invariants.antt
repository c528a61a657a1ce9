-- The loop. The paths counted so far and the ancestors of the first n bytes make all of them.
-- Invariant: `count` paths were visited, and the last of them is the first n bytes.
use mathlib.Core.Path.{◌≡◌}
use Prim.Native.Nat.{◌+◌, ◌-◌, ◌≤◌}
use lib.ListN.{length, take}
use Rattle.path_parts.specs.Parent.{ancestors_within, ancestors}
use Rattle.path_parts.proofs.ancestor_count.Given as goal

abbrev pub invariant-loop-count : goal.invariant-loop-count
invariant-loop-count l = (l.n ≤ length l.path) × (1 + length (ancestors l.path) ≡ l.count + length (ancestors_within (length l.path - l.count) (take l.n l.path)))

abbrev pub decreases-loop-count : goal.decreases-loop-count
decreases-loop-count l = length l.path - l.count
