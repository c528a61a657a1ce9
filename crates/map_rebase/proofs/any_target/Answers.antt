use Rattle.std.proofs.Common.{rules}
use Rattle.pair_buffer.proofs.RangeLaws.{any_below}
use Rattle.map_rebase.proofs.RebaseBranches.{target_in}
use Rattle.map_rebase.proofs.any_target.Goals as goal

pub returns : goal.returns
returns c = target_in _ _ _ _ _ (any_below _ _ _ _ _ _ c.any.ensures.ran (λ x q k. search rules) (λ x q k. search rules))
