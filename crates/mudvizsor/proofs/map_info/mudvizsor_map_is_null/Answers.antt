use Rattle.mudvizsor.proofs.map_info.mudvizsor_map_is_null.Goals as goal

pub returns : goal.returns
returns c = rw (← c.map_from_numbers.ensures) c.is_null.ensures
