use Rattle.std.proofs.Common.{rules}
use Rattle.pair_list.specs.Places.{pairs_in}
use Rattle.map_implied_class.proofs.ImpliedBranches.{composed_finished}
use Rattle.text.proofs.Clauses.{value_out_after_slots_after}
use Rattle.map_implied_class.proofs.finish_composed.Goals as goal

pub returns : goal.returns
returns c =
    let args = c.args in
    value_out_after_slots_after (composed_finished args.outer args.inner (pairs_in args.store.now args.places.now args.n) _ _
    (search rules) (search rules) _ _ _ _ _ (c.finish_map.ensures.value, (c.finish_map.ensures.out_after, c.finish_map.ensures.slots_after)))
