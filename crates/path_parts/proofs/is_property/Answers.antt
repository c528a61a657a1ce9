use Rattle.std.proofs.Common.{◌∙◌}
use Rattle.path_parts.proofs.PartLaws.{property_none, property_some}
use Rattle.path_parts.proofs.is_property.Goals as goal

pub returns-then-lacks_byte : goal.returns-then-lacks_byte
returns-then-lacks_byte c = property_some _ _ c.lacks_byte.ensures _ c.if-lacks_byte.true c.lacks_byte-then-lacks_byte.ensures

pub returns-else-lacks_byte : goal.returns-else-lacks_byte
returns-else-lacks_byte c = c.if-lacks_byte.false ∙ property_none _ _ c.lacks_byte.ensures c.if-lacks_byte.false
