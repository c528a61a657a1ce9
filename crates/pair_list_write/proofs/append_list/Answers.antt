use mathlib.Core.Path.{refl}
use native.Mathlib.Omega.{arith}
use Rattle.pair_list_write.proofs.WriteBranches.{list_few, list_outside, list_full, at_begin, text_begin, slots_begin, list_fits, list_done}
use Rattle.pair_list_write.proofs.PushBranches.{append_next}
use borrow.Author.Rules.{rules}
use Rattle.text.proofs.Clauses.{value_out_after_slots_after}
use mathlib.Core.Path.{ap}
use mathlib.Core.Bool.{not}
use Rattle.pair_list_write.proofs.append_list.Goals as goal

pub returns-then-slots-n : goal.returns-then-slots-n
returns-then-slots-n c = value_out_after_slots_after (list_few _ _ _ _ _ _ c.if-slots-n.true)

pub returns-then-out-at : goal.returns-then-out-at
returns-then-out-at c = value_out_after_slots_after (list_outside _ _ _ _ _ _ c.if-out-at.true)

pub returns-then-not-list_fits : goal.returns-then-not-list_fits
returns-then-not-list_fits c = value_out_after_slots_after (list_full _ _ _ _ _ _ c.if-out-at.false _ c.list_fits.ensures (ap not c.if-not-list_fits.true))

pub loop-i-init : goal.loop-i-init
loop-i-init c = (
  list_fits _ _ _ _ _ c.if-out-at.false _ c.list_fits.ensures (ap not c.if-not-list_fits.false),
  (let args = c.args in
      (at_begin _ _ _, (text_begin args.store.now args.places.now args.at _, slots_begin _ _ _ _))),
  refl,
  refl,
)

pub loop-i-preserved : goal.loop-i-preserved
loop-i-preserved c = (
  c.loop-i.invariant.0,
  (append_next _ _ _ _ _ _ _ _ _ _ (omega arith) c.loop-i.invariant.0 c.loop-i.invariant.2
      (omega (arith, c.if-slots-n.false, c.loop-i.invariant.3)) c.loop-i.invariant.1 _ _ c.key_at-s.ensures
      c.key_at-t.ensures _ _ _ (c.push_pair-end.ensures.value, (c.push_pair-end.ensures.bytes_after, c.push_pair-end.ensures.slots_after))),
  search rules,
  search rules,
)

pub returns : goal.returns
returns c =
    value_out_after_slots_after (list_done _ _ _ _ _ _ c.if-slots-n.false c.loop-i.invariant.0 _ _ _ (omega arith) (omega arith)
    c.loop-i.invariant.1.1.0 c.loop-i.invariant.1.1.1)
