use Rattle.layer_offset.proofs.Branches.{patterned}
use Rattle.layer_offset.proofs.LayerOffset.to_bits.Goals as goal

pub returns : goal.returns
returns c = patterned _ _ _ c.pattern.ensures c.pattern-2.ensures
