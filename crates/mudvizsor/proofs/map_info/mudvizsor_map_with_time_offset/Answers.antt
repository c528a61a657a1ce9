use Rattle.text.proofs.Clauses.{value_time_after}
use Rattle.mudvizsor.proofs.map_info.mudvizsor_map_with_time_offset.Goals as goal

pub returns : goal.returns
returns c = value_time_after (rw (← c.map_from_numbers-map.ensures, ← c.with_time_offset.ensures) (c.map_code.ensures.value, c.map_code.ensures.time_after))
