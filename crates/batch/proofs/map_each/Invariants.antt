-- The loop. After i iterations the first i paths have the blocks and the replies of the single calls, and the rest of both buffers is as
-- it was.
use Rattle.batch.specs.BatchStep.{map_spot_by}
use Rattle.batch.specs.Batch.{path_buffers, reply_numbers}
use lib.ListN.{length}
use mathlib.Core.Path.{◌≡◌}
use Rattle.batch.proofs.map_each.Given as goal

abbrev pub invariant-loop-i : goal.invariant-loop-i
invariant-loop-i l = (l.out ≡ path_buffers (map_spot_by l.list l.by l.store l.places l.legs l.texts l.spots 255) 0 l.i l.initial.out) × (l.replies ≡ reply_numbers (map_spot_by l.list l.by l.store l.places l.legs l.texts l.spots 255) 0 l.i l.initial.replies) × (length l.out ≡ length l.initial.out) × (length l.replies ≡ length l.initial.replies)
