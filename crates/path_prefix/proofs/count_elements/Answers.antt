use Rattle.path_prefix.proofs.CountBranches.{counts}
use borrow.Author.Rules.{rules}
use Rattle.path_prefix.proofs.count_elements.Goals as goal

pub loop-i-preserved : goal.loop-i-preserved
loop-i-preserved c = search (rules, counts)

pub returns : goal.returns
returns c = search (rules, counts)
