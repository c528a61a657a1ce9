use Rattle.mudvizsor.proofs.map_build.mudvizsor_map_inverse.Goals as goal

pub returns : goal.returns
returns c =
    rw (← c.map_from_numbers-map.ensures, ← c.inverse.ensures.0)
    (c.map_code.ensures.value, (c.inverse.ensures.1.0, (c.inverse.ensures.1.1, c.map_code.ensures.time_after)))
