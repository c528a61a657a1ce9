use lib.Ieee.{of_bits}
use Rattle.map_implied_class.proofs.ImpliedBranches.{finished_whole, finished_parts, finish_done}
use Rattle.text.proofs.Clauses.{value_out_after_slots_after}
use Rattle.map_implied_class.proofs.finish_map.Goals as goal

pub returns-then-whole : goal.returns-then-whole
unfolding of_bits
returns-then-whole c =
    let args = c.args in
    value_out_after_slots_after (finish_done _ _
    (finished_whole args.store.now args.places.now args.n args.mark args.out.now args.slots.now c.requires.n_bound.0 c.requires.n_bound.1
    c.requires.slots_value args.whole c.if-whole.true)
    _ _ _ _ _ _ c.without_dropping.ensures c.map_of_reply.ensures)

pub returns : goal.returns
unfolding of_bits
returns c =
    let args = c.args in
    value_out_after_slots_after (finish_done _ _
    (finished_parts args.store.now args.places.now args.n args.mark args.out.now args.slots.now c.requires.n_bound.0 c.requires.n_bound.1
    c.requires.slots_value args.whole c.if-whole.false)
    _ _ _ _ _ _ c.from_parts.ensures c.map_of_reply-2.ensures)
