use Rattle.hex_digits.proofs.DecodeLaws.{decoding}
use borrow.Author.Rules.{rules}
use Rattle.hex_digits.proofs.decode.Goals as goal
use Rattle.hex_digits.proofs.decode.Goals.{then-text-n-via-then-text-n, then-text-n-via-else-text-n+then-not-all_digits}

pub returns-then-text-n-clause-value : goal.returns-then-text-n-clause-value
returns-then-text-n-clause-value c =
    elim c.then-text-n.branch [
      | then-text-n-via-then-text-n w ↦ search (rules, decoding)
      | then-text-n-via-else-text-n+then-not-all_digits w ↦ search (rules, decoding)
    ]

pub returns-then-text-n-clause-out_after : goal.returns-then-text-n-clause-out_after
returns-then-text-n-clause-out_after c =
    elim c.then-text-n.branch [
      | then-text-n-via-then-text-n w ↦ search (rules, decoding)
      | then-text-n-via-else-text-n+then-not-all_digits w ↦ search (rules, decoding)
    ]

pub returns-then-out-n : goal.returns-then-out-n
returns-then-out-n c = search (rules, decoding)

pub loop-i-preserved : goal.loop-i-preserved
loop-i-preserved c = search (rules, decoding)

pub returns : goal.returns
returns c = search (rules, decoding)
