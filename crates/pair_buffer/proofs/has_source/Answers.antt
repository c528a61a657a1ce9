use Rattle.std.proofs.Common.{rules}
use Rattle.pair_buffer.proofs.RangeLaws.{any_below}
use Rattle.pair_buffer.proofs.SourceLaws.{source_in}
use Rattle.pair_buffer.proofs.has_source.Goals as goal

pub returns : goal.returns
returns c = source_in _ _ _ _ _ (any_below _ _ _ _ _ _ c.any.ensures.ran (λ x q k. search rules) (λ x q k. search rules))
