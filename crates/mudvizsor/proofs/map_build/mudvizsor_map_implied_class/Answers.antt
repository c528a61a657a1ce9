use Rattle.mudvizsor.proofs.map_build.mudvizsor_map_implied_class.Goals as goal

pub returns : goal.returns
returns c =
    rw (
      ← c.map_from_numbers-map.ensures,
      ← c.map_from_numbers-inner.ensures,
      ← c.implied_class.ensures.0,
    ) (
      c.map_code.ensures.value,
      (c.implied_class.ensures.1.0, (c.implied_class.ensures.1.1, c.map_code.ensures.time_after)),
    )
