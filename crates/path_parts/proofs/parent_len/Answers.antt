use borrow.Author.Rules.{rules}
use Rattle.path_parts.proofs.PartLaws.{parent_cases}
use Rattle.path_parts.proofs.parent_len.Goals as goal

pub returns-then-last_is : goal.returns-then-last_is
returns-then-last_is c = search (rules, parent_cases)

pub returns : goal.returns
returns c = search (rules, parent_cases)
