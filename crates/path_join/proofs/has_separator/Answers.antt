-- No byte of a slash is at any index; one is there if the text reaches so far and has it.
use Rattle.path_join.proofs.JoinBranches.{separators}
use borrow.Author.Rules.{rules}
use Rattle.path_join.proofs.has_separator.Goals as goal

pub returns-then-text-at : goal.returns-then-text-at
returns-then-text-at c = search (rules, separators)

pub returns : goal.returns
returns c = search (rules, separators)
