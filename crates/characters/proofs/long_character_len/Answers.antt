use Rattle.characters.proofs.CodeLaws.{lengths}
use borrow.Author.Rules.{rules}
use Rattle.characters.proofs.long_character_len.Goals as goal

pub returns-then-n-lt3 : goal.returns-then-n-lt3
returns-then-n-lt3 c = search (rules, lengths)

pub returns-then-is_three_bytes : goal.returns-then-is_three_bytes
returns-then-is_three_bytes c = search (rules, lengths)

pub returns-then-a-lt240 : goal.returns-then-a-lt240
returns-then-a-lt240 c = search (rules, lengths)

pub returns-then-a-gt247 : goal.returns-then-a-gt247
returns-then-a-gt247 c = search (rules, lengths)

pub returns-then-n-lt4 : goal.returns-then-n-lt4
returns-then-n-lt4 c = search (rules, lengths)

pub returns-then-is_four_bytes : goal.returns-then-is_four_bytes
returns-then-is_four_bytes c = search (rules, lengths)

pub returns : goal.returns
returns c = search (rules, lengths)
