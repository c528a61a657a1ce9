use borrow.Author.Rules.{rules}
use Rattle.path_grammar.proofs.CodeLaws.{asking}
use Rattle.path_grammar.proofs.is_end_wide.Goals as goal

pub returns-then-code-eq0 : goal.returns-then-code-eq0
returns-then-code-eq0 c = search (rules, asking)

pub returns : goal.returns
returns c = search (rules, asking)
