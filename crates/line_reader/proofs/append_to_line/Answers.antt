use lib.ListN.{length}
use Rattle.line_reader.proofs.TakeLaws.{adds, most_small}
use borrow.Author.Rules.{rules}
use native.Mathlib.Omega.{arith}
use Rattle.line_reader.proofs.append_to_line.Goals as goal
use Rattle.line_reader.proofs.append_to_line.Goals.{then-most-len-via-then-most-len, then-most-len-via-else-most-len+then-most-len-2}

pub overflow_add-result : goal.overflow_add-result
overflow_add-result c = omega (arith, most_small (length c.args.line.now), c.line_capacity-most.ensures)

pub returns-then-most-len-clause-value : goal.returns-then-most-len-clause-value
returns-then-most-len-clause-value c =
    elim c.then-most-len.branch [ then-most-len-via-then-most-len w ↦ search (rules, adds) | then-most-len-via-else-most-len+then-most-len-2 w ↦ search (rules, adds) ]

pub returns-then-most-len-clause-line_after : goal.returns-then-most-len-clause-line_after
returns-then-most-len-clause-line_after c =
    elim c.then-most-len.branch [ then-most-len-via-then-most-len w ↦ search (rules, adds) | then-most-len-via-else-most-len+then-most-len-2 w ↦ search (rules, adds) ]

pub returns : goal.returns
returns c = search (rules, adds)
