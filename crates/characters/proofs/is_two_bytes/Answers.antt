use Rattle.characters.proofs.TestLaws.{characters}
use borrow.Author.Rules.{rules}
use Rattle.characters.proofs.is_two_bytes.Goals as goal

pub returns : goal.returns
returns c = search (rules, characters)
