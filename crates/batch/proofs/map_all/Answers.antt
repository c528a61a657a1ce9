use Rattle.std.proofs.Common.{rules, Err, ◌≡◌}
-- The questions of the list and of the buffers are those of `validate_map_all`; then each path is the single call.
use Rattle.batch.proofs.BatchLaws.{batch_has_room, all_same, all_refused, all_done, map_validated, map_step}
use mathlib.Core.Path.{sym, ◌∙◌}
use Rattle.batch.proofs.map_all.Goals as goal

pub returns-in_err-validate_batch : goal.returns-in_err-validate_batch
returns-in_err-validate_batch c = let r : c.from_residual.result ≡ Err c.in_err-validate_batch.field-0.0 = search rules in rw r (all_refused _ _ _ _ (map_validated _ _ _ _ _ _ _ _ _ c.validate_list-list.ensures c.validate_batch.ensures ∙ c.in_err-validate_batch.was) _ _)

pub map_each-requires : goal.map_each-requires
map_each-requires c = batch_has_room _ _ _ _ _ (sym c.validate_batch.ensures ∙ c.in_ok-validate_batch.was)

pub returns : goal.returns
returns c =
    all_done _ _ _ (map_validated _ _ _ _ _ _ _ _ _ c.validate_list-list.ensures c.validate_batch.ensures ∙ c.in_ok-validate_batch.was) _ _ _ _
    (all_same _ _ (map_step _ _ _ _ _ _ _ _ c.validate_list-list.ensures) _ _ _ _ _ (c.map_each.ensures.out_after, c.map_each.ensures.replies_after))
