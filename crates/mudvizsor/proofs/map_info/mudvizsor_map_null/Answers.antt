use Rattle.text.proofs.Clauses.{value_time_after}
use Rattle.mudvizsor.proofs.map_info.mudvizsor_map_null.Goals as goal

pub returns : goal.returns
returns c = value_time_after (rw (← c.null-map.ensures) (c.map_code.ensures.value, c.map_code.ensures.time_after))
