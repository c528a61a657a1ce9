use Rattle.path_parts.proofs.ScanLaws.{counts}
use borrow.Author.Rules.{rules}
use Rattle.path_parts.proofs.ancestor_count.Goals as goal

pub loop-count-init : goal.loop-count-init
loop-count-init c = search (rules, counts)

pub loop-count-preserved : goal.loop-count-preserved
loop-count-preserved c = search (rules, counts)

pub returns-else-has_parent : goal.returns-else-has_parent
returns-else-has_parent c = search (rules, counts)

pub returns-after-loop-count : goal.returns-after-loop-count
returns-after-loop-count c = search (rules, counts)
