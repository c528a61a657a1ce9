use Rattle.pair_list_write.proofs.PushBranches.{pair_done}
use Rattle.compose_pairs.proofs.compose_pair.Goals as goal

pub returns : goal.returns
returns c =
    let args = c.args in
    pair_done args.s.now _ args.at args.n _ args.bytes.now _ _ args.slots.now _ c.requires.t_in_bounds c.requires.n_in_bounds
    c.composed_target_at-k.ensures.value c.write_at.ensures c.composed_target_at-k.ensures.bytes_after
    c.write_entry.ensures
