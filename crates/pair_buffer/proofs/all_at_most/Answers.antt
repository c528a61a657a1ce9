use Rattle.std.proofs.Common.{rules}
use borrow.Author.Tests.{tests}
use Rattle.pair_buffer.proofs.RangeLaws.{all_below}
use Rattle.pair_buffer.proofs.ShortBranches.{short_in}
use Rattle.pair_buffer.proofs.all_at_most.Goals as goal

pub returns : goal.returns
returns c = short_in _ _ _ _ _ (all_below _ _ _ _ _ _ c.all.ensures.ran (λ x q k. search (rules, tests)) (λ x q k. search (rules, tests)))
