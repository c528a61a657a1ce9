use Rattle.mudvizsor.proofs.map_build.mudvizsor_map_with_root_identity.Goals as goal

pub returns : goal.returns
returns c =
    rw (← c.map_from_numbers-map.ensures, ← c.with_root_identity.ensures.0) (
      c.map_code.ensures.value,
      (c.with_root_identity.ensures.1.0, (c.with_root_identity.ensures.1.1, c.map_code.ensures.time_after)),
    )
