use Rattle.hex_digits.proofs.EncodeLaws.{encoding}
use borrow.Author.Rules.{rules}
use Rattle.hex_digits.proofs.encode.Goals as goal
use Rattle.hex_digits.proofs.encode.Goals.{then-out-at-via-then-out-at, then-out-at-via-else-out-at+then-out-at-2}

pub returns-then-out-at : goal.returns-then-out-at
returns-then-out-at c =
    elim c.then-out-at.branch [ then-out-at-via-then-out-at w ↦ search (rules, encoding) | then-out-at-via-else-out-at+then-out-at-2 w ↦ search (rules, encoding) ]

pub loop-i-preserved : goal.loop-i-preserved
loop-i-preserved c = search (rules, encoding)

pub returns : goal.returns
returns c = search (rules, encoding)
