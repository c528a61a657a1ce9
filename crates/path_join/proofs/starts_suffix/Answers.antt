use Rattle.path_join.proofs.JoinBranches.{illegals}
use borrow.Author.Rules.{rules}
use Rattle.path_join.proofs.starts_suffix.Goals as goal

pub returns-then-a-eq123 : goal.returns-then-a-eq123
returns-then-a-eq123 c = search (rules, illegals)

pub returns : goal.returns
returns c = search (rules, illegals)
