use Rattle.batch.proofs.BatchLaws.{spot_outside, spot_inside}
use Rattle.refusal.proofs.CallBranches.{refusing, answering}
use mathlib.Core.Path.{ap}
use mathlib.Core.Bool.{not}
use Rattle.batch.proofs.map_spot.Goals as goal

pub returns-then-not-is_inside : goal.returns-then-not-is_inside
returns-then-not-is_inside c = refusing _ _ (spot_outside _ _ _ _ _ _ _ _ _ _ c.is_inside.ensures (ap not c.if-not-is_inside.true)) _

pub returns : goal.returns
returns c =
    answering _ _ (spot_inside _ _ _ _ _ _ _ _ _ _ c.is_inside.ensures _ (ap not c.if-not-is_inside.false) c.text_at-path.ensures) _ _ _
    c.map_one.ensures
