use Rattle.text_list.proofs.PlaceBranches.{reading}
use borrow.Author.Rules.{rules}
use Rattle.text_list.proofs.text_at.Goals as goal

pub returns-then-places-j : goal.returns-then-places-j
returns-then-places-j c = search (rules, reading)

pub returns-then-store-start : goal.returns-then-store-start
returns-then-store-start c = search (rules, reading)

pub returns-then-store-start-2 : goal.returns-then-store-start-2
returns-then-store-start-2 c = search (rules, reading)

pub returns : goal.returns
returns c = search (rules, reading)
