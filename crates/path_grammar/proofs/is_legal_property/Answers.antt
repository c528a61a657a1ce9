use borrow.Author.Rules.{rules}
use Rattle.path_grammar.proofs.InnerLaws.{property_refused, property_tested}
use Rattle.path_grammar.proofs.is_legal_property.Goals as goal

pub returns-then-not-is_legal_own : goal.returns-then-not-is_legal_own
returns-then-not-is_legal_own c = search (rules, property_refused)

pub returns : goal.returns
returns c = search (rules, property_tested)
