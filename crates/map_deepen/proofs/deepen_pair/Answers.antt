use Rattle.pair_list_write.proofs.PushBranches.{pair_there}
use native.Mathlib.Omega.{arith}
use Rattle.map_deepen.proofs.DeepenBranches.{deepen_class, deepen_other}
use Rattle.text.proofs.Clauses.{appended_pair_upper_bound}
use Rattle.map_deepen.proofs.deepen_pair.Goals as goal

pub returns-then-is_equal : goal.returns-then-is_equal
returns-then-is_equal c =
    let args = c.args in
    appended_pair_upper_bound (deepen_class args.s.now args.t.now args.node.now args.above.now args.below.now _ c.is_equal.ensures args.at
    args.n _ args.bytes.now _ args.slots.now _ c.if-is_equal.true c.requires.node_len_bound c.requires.below_len_bound
    (pair_there _ _ _ _ _ _ (omega (arith, c.requires.node_len_bound, c.requires.below_len_bound, c.requires.at_in_bounds)) c.requires.n_in_bounds _ _ _
    (c.push_pair.ensures.value, (c.push_pair.ensures.bytes_after, c.push_pair.ensures.slots_after))))

pub returns : goal.returns
returns c =
    let args = c.args in
    appended_pair_upper_bound (deepen_other args.s.now args.t.now args.node.now args.above.now args.below.now _ c.is_equal.ensures args.at
    args.n _ args.bytes.now _ args.slots.now _ c.if-is_equal.false c.requires.s_len_bound c.requires.t_len_bound
    (pair_there _ _ _ _ _ _ (omega (arith, c.requires.s_len_bound, c.requires.t_len_bound, c.requires.at_in_bounds)) c.requires.n_in_bounds _ _ _ (c.push_pair-2.ensures.value, (c.push_pair-2.ensures.bytes_after, c.push_pair-2.ensures.slots_after))))
