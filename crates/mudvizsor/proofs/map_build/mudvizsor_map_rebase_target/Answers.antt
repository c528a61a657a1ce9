use Rattle.mudvizsor.proofs.map_build.mudvizsor_map_rebase_target.Goals as goal

pub returns : goal.returns
returns c =
    rw (← c.map_from_numbers-map.ensures, ← c.rebase_target.ensures.0) (
      c.map_code.ensures.value,
      (c.rebase_target.ensures.1.0, (c.rebase_target.ensures.1.1, c.map_code.ensures.time_after)),
    )
