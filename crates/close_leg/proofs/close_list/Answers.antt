use Rattle.std.proofs.Common.{Err, ◌≡◌}
use native.Mathlib.Omega.{arith}
use mathlib.Core.Path.{refl}
use Rattle.map_canonical.proofs.KeptLaws.{canonical_read}
use Rattle.close_leg.proofs.CloseBranches.{list_refused, list_fits, list_closed}
use borrow.Author.Rules.{rules}
use Rattle.text.proofs.Clauses.{value_store_after_slots_after_table_after}
use Rattle.close_leg.proofs.close_list.Goals as goal

pub returns-in_err-totals : goal.returns-in_err-totals
returns-in_err-totals c =
    let r : c.from_residual.result ≡ Err c.in_err-totals.field-0.0 = search rules in
    rw r (value_store_after_slots_after_table_after (list_refused _ _ _ _ _ _ _ c.validate_close.ensures _ c.in_err-totals.was))

pub overflow_mul-at : goal.overflow_mul-at
overflow_mul-at c =
    let f = list_fits c.args.mark _ _ _ _ _ _ c.validate_close.ensures _ c.in_ok-totals.was in
    omega (arith, f.0)

pub overflow_add-end : goal.overflow_add-end
overflow_add-end c =
    let f = list_fits c.args.mark _ _ _ _ _ _ c.validate_close.ensures _ c.in_ok-totals.was in
    omega (arith, f.0)

pub offset_bounds-slots-at : goal.offset_bounds-slots-at
offset_bounds-slots-at c =
    let f = list_fits c.args.mark _ _ _ _ _ _ c.validate_close.ensures _ c.in_ok-totals.was in
    omega (arith, f.0)

pub slice_bounds-append_list-end-2 : goal.slice_bounds-append_list-end-2
slice_bounds-append_list-end-2 c =
    let f = list_fits c.args.mark _ _ _ _ _ _ c.validate_close.ensures _ c.in_ok-totals.was in
    omega (arith, f.1)

pub write_leg_entry-requires : goal.write_leg_entry-requires
write_leg_entry-requires c =
    let f = list_fits c.args.mark _ _ _ _ _ _ c.validate_close.ensures _ c.in_ok-totals.was in
    (f.0, f.2)

pub returns : goal.returns
returns c =
    value_store_after_slots_after_table_after (rw c.in_ok-totals.was at (list_closed _ _ _ _ _ _ _
    c.validate_close.ensures
    _
    c.in_ok-totals.was
    _ _ _ refl
    c.requires.0
    c.requires.1
    _
    c.is_marked-marked.ensures
    _ (search rules) _ _
    (canonical_read _ _ _ _ _ _ _ _
    (c.canonical_places-w.ensures.value, c.canonical_places-w.ensures.kept_after))
    _ _ _ c.append_list.ensures.out_after
    c.append_list.ensures.slots_after c.write_leg_entry.ensures))
