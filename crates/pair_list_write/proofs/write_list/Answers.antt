use Rattle.pair_list_write.proofs.WriteBranches.{list_first}
use Rattle.text.proofs.Clauses.{value_out_after_slots_after}
use Rattle.pair_list_write.proofs.write_list.Goals as goal

pub returns : goal.returns
returns c = value_out_after_slots_after (list_first _ _ _ _ _ _ (c.append_list.ensures.value, (c.append_list.ensures.out_after, c.append_list.ensures.slots_after)))
