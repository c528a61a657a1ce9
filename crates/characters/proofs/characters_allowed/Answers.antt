use borrow.Author.Rules.{rules}
use Rattle.characters.proofs.FastTableLaws.{fast_yes}
use Rattle.characters.proofs.characters_allowed.Goals as goal

pub returns-then-fast_accepts : goal.returns-then-fast_accepts
returns-then-fast_accepts c = search (rules, fast_yes)
