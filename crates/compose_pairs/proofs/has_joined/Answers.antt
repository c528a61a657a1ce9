use Rattle.std.proofs.Common.{rules}
use Rattle.pair_buffer.proofs.RangeLaws.{any_below}
use Rattle.compose_pairs.proofs.PullBackBranches.{join_in}
use Rattle.compose_pairs.proofs.has_joined.Goals as goal

pub returns : goal.returns
returns c = join_in _ _ _ _ _ (any_below _ _ _ _ _ _ c.any.ensures.ran (λ x q k. search rules) (λ x q k. search rules))
