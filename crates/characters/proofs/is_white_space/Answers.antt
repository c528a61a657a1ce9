use Rattle.characters.proofs.TestLaws.{characters}
use borrow.Author.Rules.{rules}
use Rattle.characters.proofs.is_white_space.Goals as goal

pub returns : goal.returns
returns c = search (rules, characters)
