use Rattle.mudvizsor.proofs.map_build.mudvizsor_map_deepen_to.Goals as goal

pub returns : goal.returns
returns c =
    rw (← c.map_from_numbers-map.ensures, ← c.deepen_to.ensures.0)
    (c.map_code.ensures.value, (c.deepen_to.ensures.1.0, (c.deepen_to.ensures.1.1, c.map_code.ensures.time_after)))
