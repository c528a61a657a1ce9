use Rattle.pair_list_write.proofs.PushBranches.{pair_there}
use native.Mathlib.Omega.{arith}
use Rattle.map_rebase.proofs.CallBranches.{one_pair}
use Rattle.map_function.proofs.NewBranches.{gives_map}
use Rattle.map_rebase.proofs.from_pair_identity.Goals as goal

pub returns : goal.returns
returns c =
    let args = c.args in
    gives_map _ _
    (one_pair args.s.now args.t.now args.time args.out.now args.slots.now _ _ _ _ _
    (pair_there _ _ _ _ _ _ (omega (arith, c.requires.s_len_bound, c.requires.t_len_bound)) (omega arith) _ _ _ (c.push_pair.ensures.value, (c.push_pair.ensures.bytes_after, c.push_pair.ensures.slots_after))))
    _ _ _ _ _ c.from_parts.ensures
