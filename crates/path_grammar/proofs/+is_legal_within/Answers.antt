use borrow.Author.Rules.{rules}
use Rattle.path_grammar.proofs.InnerLaws.{within_own, within_deepest, within_deeper}
use Rattle.path_grammar.proofs.+is_legal_within.Goals as goal

-- The text in the brackets is empty: there are no brackets.
pub returns-then-inner-eq0 : goal.returns-then-inner-eq0
returns-then-inner-eq0 t c = search (rules, within_own)

-- No depth remains.
pub returns-then-depth-eq0 : goal.returns-then-depth-eq0
returns-then-depth-eq0 t c = search (rules, within_deepest)

-- What the recursive call answers.
pub returns : goal.returns
returns t c = search (rules, within_deeper)
