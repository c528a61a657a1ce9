use Rattle.mudvizsor.proofs.map_build.mudvizsor_map_new.Goals as goal

pub returns : goal.returns
returns c = rw (← c.new.ensures.0) (c.map_code.ensures.value, (c.new.ensures.1.0, (c.new.ensures.1.1, c.map_code.ensures.time_after)))
