use Rattle.characters.proofs.CodeLaws.{lengths}
use borrow.Author.Rules.{rules}
use Rattle.characters.proofs.character_len.Goals as goal

pub returns-then-a-lt128 : goal.returns-then-a-lt128
returns-then-a-lt128 c = search (rules, lengths)

pub returns-then-a-lt192 : goal.returns-then-a-lt192
returns-then-a-lt192 c = search (rules, lengths)

pub returns-then-text-i-lt2 : goal.returns-then-text-i-lt2
returns-then-text-i-lt2 c = search (rules, lengths)

pub returns-then-is_two_bytes : goal.returns-then-is_two_bytes
returns-then-is_two_bytes c = search (rules, lengths)

pub returns : goal.returns
returns c = search (rules, lengths)
