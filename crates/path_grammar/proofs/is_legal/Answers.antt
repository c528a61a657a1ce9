use borrow.Author.Rules.{rules}
use Rattle.path_grammar.proofs.InnerLaws.{legal_empty, legal_deep}
use Rattle.path_grammar.proofs.CodeLaws.{asking}
use Rattle.path_grammar.proofs.is_legal.Goals as goal

pub returns-then-p-eq0 : goal.returns-then-p-eq0
returns-then-p-eq0 c = search (rules, legal_empty)

pub returns-then-last_is : goal.returns-then-last_is
returns-then-last_is c = search (rules, legal_deep)

pub returns-then-code-eq1 : goal.returns-then-code-eq1
returns-then-code-eq1 c = search (rules, asking)

pub returns-then-code-eq0 : goal.returns-then-code-eq0
returns-then-code-eq0 c = search (rules, asking)

pub returns : goal.returns
returns c = search (rules, asking)
