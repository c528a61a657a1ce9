use native.Mathlib.Omega.{arith}
use Rattle.pair_buffer.proofs.EndBranches.{replace_long, replace_not, replace_start, replace_made}
use Rattle.text.proofs.Clauses.{value_out_after}
use mathlib.Core.Path.{ap}
use mathlib.Core.Bool.{not}
use Rattle.pair_buffer.proofs.replace_into.Goals as goal

pub returns-then-out-path : goal.returns-then-out-path
returns-then-out-path c =
    let args = c.args in
    value_out_after (replace_long args.path.now args.old.now args.new.now _ c.has_prefix.ensures args.out.now (ap not c.if-not-has_prefix.true)
    (omega arith))

pub returns-then-not-has_prefix : goal.returns-then-not-has_prefix
returns-then-not-has_prefix c =
    let args = c.args in
    value_out_after (replace_not args.path.now args.old.now args.new.now _ c.has_prefix.ensures args.out.now (ap not c.if-not-has_prefix.true)
    (omega arith) _ c.write_at.ensures)

pub slice_bounds-join-count : goal.slice_bounds-join-count
slice_bounds-join-count c =
    let args = c.args in
    replace_start args.path.now args.old.now args.new.now _ c.has_prefix.ensures args.out.now (ap not c.if-not-has_prefix.false)

pub slice_bounds-join-start : goal.slice_bounds-join-start
slice_bounds-join-start c =
    let args = c.args in
    replace_start args.path.now args.old.now args.new.now _ c.has_prefix.ensures args.out.now (ap not c.if-not-has_prefix.false)

pub returns : goal.returns
returns c =
    let args = c.args in
    value_out_after (replace_made args.path.now args.old.now args.new.now _ c.has_prefix.ensures args.out.now (ap not c.if-not-has_prefix.false) _ _
    (c.join.ensures.value, c.join.ensures.out_after) _ c.unwrap_or.ensures)
