use borrow.Author.Rules.{rules}
use Rattle.path_grammar.proofs.CodeLaws.{asking}
use Rattle.path_grammar.proofs.is_end.Goals as goal

pub returns-then-code-eq1 : goal.returns-then-code-eq1
returns-then-code-eq1 c = search (rules, asking)
