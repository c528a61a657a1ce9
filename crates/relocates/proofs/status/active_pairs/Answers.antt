use native.Mathlib.Omega.{arith}
use Rattle.validate.proofs.SelectLaws.{select_few, select_present, select_room}
use Rattle.relocates.proofs.ActiveBranches.{active_none, active_few, active_on, selection_none, active_end}
use Rattle.text.proofs.Clauses.{value_kept_after}
use mathlib.Core.Path.{ap}
use mathlib.Core.Bool.{not}
use Rattle.relocates.proofs.status.active_pairs.Goals as goal

pub returns-then-not-can_select : goal.returns-then-not-can_select
returns-then-not-can_select c = value_kept_after (selection_none _ _ _ _ _ c.can_select.ensures (ap not c.if-not-can_select.true))

pub write_statuses-requires : goal.write_statuses-requires
write_statuses-requires c = (select_few _ _ _ _ c.can_select.ensures (ap not c.if-not-can_select.false), select_few _ _ _ _ c.can_select.ensures (ap not c.if-not-can_select.false))

pub loop-i-init : goal.loop-i-init
loop-i-init c = active_none _ _ _ _

pub bounds-status-i : goal.bounds-status-i
bounds-status-i c = omega (arith, select_few _ _ _ _ c.can_select.ensures (ap not c.if-not-can_select.false))

pub keep_active-w-requires : goal.keep_active-w-requires
keep_active-w-requires c =
    let l = c.loop-i in
    let m = c.can_select.ensures in
    let y = (ap not c.if-not-can_select.false) in
    omega (arith, c.loop-i-test.true, active_few _ _ _ _ _ _ _ l.invariant, select_few _ _ _ _ m y, select_room _ _ _ _ m y)

pub loop-i-preserved : goal.loop-i-preserved
loop-i-preserved c =
    let l = c.loop-i in
    let m = c.can_select.ensures in
    let y = (ap not c.if-not-can_select.false) in
    active_on _ _ _ _ _ c.loop-i-test.true (select_present _ _ _ _ m y) _ _ c.write_statuses.ensures _ _ (omega (arith, select_few _ _ _ _ m y, select_room _ _ _ _ m y)) l.invariant _ _ (c.keep_active-w.ensures.value, c.keep_active-w.ensures.kept_after)

pub returns : goal.returns
returns c =
    value_kept_after (active_end _ _ _ _ _ c.can_select.ensures (ap not c.if-not-can_select.false) _ _ _ c.loop-i-test.false c.loop-i.auto.i-end
    c.loop-i.invariant)
