-- The three writes, each where the one before it ends, are one write of the path with its new target.
use Rattle.path_target.proofs.TargetBranches.{between_end, open_fits, kept_sum, replaced_nothing, replaced_over, replaced_fits, head_size}
use Rattle.std.proofs.Common.{rules, Err, ◌≡◌}
use Rattle.refusal.proofs.CallBranches.{ok_or_refused}
use Rattle.text.proofs.Clauses.{value_out_after}
use Rattle.path_target.proofs.replace_target_into.Goals as goal

pub returns-in_err-open : goal.returns-in_err-open
returns-in_err-open c =
    let r : c.from_residual.result ≡ Err c.in_err-open.field-0.0 = search rules in
    rw (r, ok_or_refused _ _ _ c.in_err-open.ensures.ok_part c.in_err-open.ensures.value)
    (value_out_after (replaced_nothing _ _ c.target_brackets.ensures c.in_err-open.ensures.ok_part _ _))

pub overflow_add-head : goal.overflow_add-head
overflow_add-head c = search (rules, open_fits _ _ c.target_brackets.ensures _ _ c.in_ok-open.ensures.ok_part)

pub overflow_add-at : goal.overflow_add-at
overflow_add-at c = search (rules, open_fits _ _ c.target_brackets.ensures _ _ c.in_ok-open.ensures.ok_part)

pub overflow_sub-len : goal.overflow_sub-len
overflow_sub-len c = search (rules, between_end)

pub overflow_add-len : goal.overflow_add-len
overflow_add-len c = search (rules, kept_sum _ _ c.target_brackets.ensures _ _ c.in_ok-open.ensures.ok_part)

pub returns-then-out-len : goal.returns-then-out-len
returns-then-out-len c = value_out_after (replaced_over _ _ c.target_brackets.ensures _ _ c.in_ok-open.ensures.ok_part _ _ c.if-out-len.true)

pub slice_bounds-write_at-end : goal.slice_bounds-write_at-end
slice_bounds-write_at-end c = head_size _ _ c.target_brackets.ensures _ _ c.in_ok-open.ensures.ok_part

pub slice_bounds-write_at-count : goal.slice_bounds-write_at-count
slice_bounds-write_at-count c = search (rules, between_end)

pub slice_bounds-write_at-start : goal.slice_bounds-write_at-start
slice_bounds-write_at-start c = search (rules, between_end)

pub returns : goal.returns
returns c =
    value_out_after (replaced_fits _ _ c.target_brackets.ensures _ _ c.in_ok-open.ensures.ok_part _ _ _ _ _ c.if-out-len.false
    c.write_at.ensures c.write_at-2.ensures c.write_at-3.ensures)
