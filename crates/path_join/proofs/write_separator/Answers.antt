-- The byte at the index is replaced by itself or by a slash, which is to write no byte or one.
use Rattle.path_join.proofs.JoinBranches.{separators}
use borrow.Author.Rules.{rules}
use Rattle.path_join.proofs.write_separator.Goals as goal

pub returns-then-out-at : goal.returns-then-out-at
returns-then-out-at c = search (rules, separators)

pub returns : goal.returns
returns c = search (rules, separators)
