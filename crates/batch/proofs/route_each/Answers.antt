use Rattle.batch.proofs.BatchLaws.{all_same, route_step}
use Rattle.text.proofs.Clauses.{out_after_replies_after}
use mathlib.Core.Path.{ap}
use mathlib.Core.Bool.{not}
use Rattle.batch.proofs.route_each.Goals as goal

pub returns-then-not-needs_maps : goal.returns-then-not-needs_maps
returns-then-not-needs_maps c =
    out_after_replies_after (all_same _ _ (route_step _ _ _ _ _ c.requires.list_value _ c.needs_maps.ensures (ap not c.if-not-needs_maps.true)) _ _ _ _ _
    (c.map_each.ensures.out_after, c.map_each.ensures.replies_after))
