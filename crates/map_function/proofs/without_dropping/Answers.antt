use Rattle.std.proofs.Common.{rules, Err, ◌≡◌}
use Rattle.refusal.proofs.CallBranches.{ok_or_refused}
use Rattle.map_function.proofs.NewBranches.{refusing_map, copy_many, copy_beyond, copy_over, copy_made}
use Rattle.map_function.proofs.without_dropping.Goals as goal
use Rattle.map_function.proofs.without_dropping.Goals.{then-n-gt64-via-then-n-gt64, then-n-gt64-via-else-n-gt64+then-places-n}

pub returns-then-n-gt64 : goal.returns-then-n-gt64
returns-then-n-gt64 c = elim c.then-n-gt64.branch [
  | then-n-gt64-via-then-n-gt64 w ↦ refusing_map _ _ (copy_many _ _ _ _ _ _ _ w.if-n-gt64.true) _ _
  | then-n-gt64-via-else-n-gt64+then-places-n w ↦ refusing_map _ _ (copy_beyond _ _ _ _ _ _ _ w.if-places-n.true) _ _
]

pub returns-in_err-w : goal.returns-in_err-w
returns-in_err-w c =
    let r : c.from_residual.result ≡ Err c.in_err-w.field-0.0 = search rules in
    rw (r, ok_or_refused _ _ _ c.in_err-w.ensures.ok_part c.in_err-w.ensures.value)
    (copy_over _ _ _ _ _ _ _ c.if-n-gt64.false c.if-places-n.false _ c.write_list.ensures.value _ _ c.in_err-w.ensures.ok_part
    c.write_list.ensures.out_after c.write_list.ensures.slots_after)

pub returns : goal.returns
returns c =
    copy_made _ _ _ _ _ _ _ c.if-n-gt64.false c.if-places-n.false _ c.write_list.ensures.value _ _ _ c.in_ok-w.ensures.ok_part
    c.write_list.ensures.out_after c.write_list.ensures.slots_after
