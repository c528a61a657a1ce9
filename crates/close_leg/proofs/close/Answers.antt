use Rattle.relocates.proofs.ActiveLaws.{active_read}
use Rattle.text.proofs.BoolLaws.{not_true, not_false}
use native.Mathlib.Omega.{arith}
use Rattle.validate.proofs.SelectLaws.{select_few, select_present}
use Rattle.close_leg.proofs.CloseBranches.{close_damaged, close_as, all_counted, active_counted, active_held}
use borrow.Author.Rules.{rules}
use Rattle.text.proofs.Clauses.{value_store_after_slots_after_table_after}
use mathlib.Core.Path.{ap}
use mathlib.Core.Bool.{not}
use Rattle.close_leg.proofs.close.Goals as goal

pub returns-then-not-can_select : goal.returns-then-not-can_select
returns-then-not-can_select c = value_store_after_slots_after_table_after (close_damaged _ _ _ _ _ _ c.can_select.ensures (ap not c.if-not-can_select.true))

pub close_list-requires : goal.close_list-requires
close_list-requires c = (
  select_few _ _ _ _ c.can_select.ensures (ap not c.if-not-can_select.false),
  select_present _ _ _ _ c.can_select.ensures (ap not c.if-not-can_select.false),
)

pub returns-then-not-relocates : goal.returns-then-not-relocates
returns-then-not-relocates c =
    value_store_after_slots_after_table_after (close_as _ _ _ _ _ _ c.can_select.ensures (ap not c.if-not-can_select.false) _ (not_true _ (ap not c.if-not-relocates.true)) _ (all_counted _ _ _) _ _ _ _
    (c.close_list.ensures.value, (c.close_list.ensures.store_after, (c.close_list.ensures.slots_after, c.close_list.ensures.table_after))))

pub close_list-requires-2 : goal.close_list-requires-2
close_list-requires-2 c = let f = active_held _ _ _ _ c.can_select.ensures (ap not c.if-not-can_select.false) _ _ _ (search rules) (active_read _ _ _ _ _ _ _ (c.active_pairs-w.ensures.value, c.active_pairs-w.ensures.kept_after)) in (f, omega (arith, f))

pub returns : goal.returns
returns c =
    value_store_after_slots_after_table_after (close_as _ _ _ _ _ _
    c.can_select.ensures
    (ap not c.if-not-can_select.false) _
    (not_false _ (ap not c.if-not-relocates.false)) _
    (active_counted _ _ _ _
    c.can_select.ensures
    (ap not c.if-not-can_select.false) _ _ _
    (search rules)
    (active_read _ _ _ _ _ _ _
    (c.active_pairs-w.ensures.value, c.active_pairs-w.ensures.kept_after)))
    _ _ _ _ (c.close_list-2.ensures.value, (c.close_list-2.ensures.store_after, (c.close_list-2.ensures.slots_after, c.close_list-2.ensures.table_after))))
