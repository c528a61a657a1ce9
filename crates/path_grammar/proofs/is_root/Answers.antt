use Rattle.path_grammar.proofs.ByteLaws.{bytes}
use borrow.Author.Rules.{rules}
use Rattle.path_grammar.proofs.is_root.Goals as goal

pub returns-then-p-ne1 : goal.returns-then-p-ne1
returns-then-p-ne1 c = search (rules, bytes)

pub returns : goal.returns
returns c = search (rules, bytes)
