use Rattle.path_join.proofs.JoinBranches.{illegals}
use borrow.Author.Rules.{rules}
use Rattle.path_join.proofs.is_join_illegal.Goals as goal

pub returns-then-remainder-eq0 : goal.returns-then-remainder-eq0
returns-then-remainder-eq0 c = search (rules, illegals)

pub returns-then-not-starts_suffix : goal.returns-then-not-starts_suffix
returns-then-not-starts_suffix c = search (rules, illegals)

pub returns-then-new-eq0 : goal.returns-then-new-eq0
returns-then-new-eq0 c = search (rules, illegals)

pub returns : goal.returns
returns c = search (rules, illegals)
