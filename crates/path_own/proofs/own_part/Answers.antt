use borrow.Author.Rules.{rules}
use Rattle.path_own.proofs.OwnBranches.{own_count, own_taken}
use Rattle.path_own.proofs.own_part.Goals as goal

pub slice_bounds-result-end : goal.slice_bounds-result-end
slice_bounds-result-end c = search (rules, own_count)

pub returns : goal.returns
returns c = search (rules, own_taken)
