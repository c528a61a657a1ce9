use Rattle.path_grammar.proofs.ByteLaws.{bytes}
use borrow.Author.Rules.{rules}
use Rattle.path_grammar.proofs.is_name_byte.Goals as goal

pub returns : goal.returns
returns c = search (rules, bytes)
