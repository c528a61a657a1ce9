use Rattle.mudvizsor.proofs.map_build.mudvizsor_map_dropping_source.Goals as goal

pub returns : goal.returns
returns c =
    rw (← c.map_from_numbers-map.ensures, ← c.dropping_source.ensures.0) (
      c.map_code.ensures.value,
      (c.dropping_source.ensures.1.0, (c.dropping_source.ensures.1.1, c.map_code.ensures.time_after)),
    )
