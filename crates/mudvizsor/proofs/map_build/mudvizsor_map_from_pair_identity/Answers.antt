use Rattle.mudvizsor.proofs.map_build.mudvizsor_map_from_pair_identity.Goals as goal

pub returns : goal.returns
returns c =
    rw (← c.from_pair_identity.ensures.0) (
      c.map_code.ensures.value,
      (c.from_pair_identity.ensures.1.0, (c.from_pair_identity.ensures.1.1, c.map_code.ensures.time_after)),
    )
