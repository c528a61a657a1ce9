use borrow.Author.Rules.{rules}
use Rattle.path_parts.proofs.EmitLaws.{strip_ends}
use Rattle.path_parts.proofs.strip_into.Goals as goal

pub returns-then-out-path : goal.returns-then-out-path
returns-then-out-path c = search (rules, strip_ends)

pub slice_bounds-strip_own-end : goal.slice_bounds-strip_own-end
slice_bounds-strip_own-end c = search (rules, strip_ends)

pub strip_own-j-requires : goal.strip_own-j-requires
strip_own-j-requires c = search (rules, strip_ends)

pub slice_bounds-write_at-count : goal.slice_bounds-write_at-count
slice_bounds-write_at-count c = search (rules, strip_ends)

pub slice_bounds-write_at-start : goal.slice_bounds-write_at-start
slice_bounds-write_at-start c = search (rules, strip_ends)

pub overflow_sub-result : goal.overflow_sub-result
overflow_sub-result c = search (rules, strip_ends)

pub overflow_sub-result-2 : goal.overflow_sub-result-2
overflow_sub-result-2 c = search (rules, strip_ends)

pub returns : goal.returns
returns c = search (rules, strip_ends)
