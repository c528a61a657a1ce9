use Rattle.mudvizsor.proofs.map_info.mudvizsor_map_path_is_identity.Goals as goal

pub returns : goal.returns
returns c = rw (← c.map_from_numbers.ensures) c.path_is_identity.ensures
