use Rattle.path_parts.proofs.ScanLaws.{writes}
use borrow.Author.Rules.{rules}
use Rattle.path_parts.proofs.write_ancestors.Goals as goal

pub returns-then-out-count : goal.returns-then-out-count
returns-then-out-count c = search (rules, writes)

pub loop-i-init : goal.loop-i-init
loop-i-init c = search (rules, writes)

pub slice_bounds-parent_len-end : goal.slice_bounds-parent_len-end
slice_bounds-parent_len-end c = search (rules, writes)

pub loop-i-preserved : goal.loop-i-preserved
loop-i-preserved c = search (rules, writes)

pub returns : goal.returns
returns c = search (rules, writes)
