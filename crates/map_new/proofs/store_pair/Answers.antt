-- The pair fits, so that it is pushed.
use Rattle.map_new.proofs.PairBranches.{pair_stored}
use Rattle.map_new.proofs.store_pair.Goals as goal

pub returns : goal.returns
returns c = pair_stored _ _ _ _ c.requires.t_in_bounds c.requires.in_bounds _ _ _ (c.push_pair.ensures.value, (c.push_pair.ensures.bytes_after, c.push_pair.ensures.slots_after))
