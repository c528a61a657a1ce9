use Rattle.std.proofs.Common.{rules, Err, ◌≡◌}
-- The questions of the list and of the buffers are those of `validate_route_all`; then each path is the single call.
use Rattle.batch.proofs.BatchLaws.{batch_has_room, all_refused, all_done, route_validated}
use mathlib.Core.Path.{sym, ◌∙◌}
use Rattle.batch.proofs.route_all.Goals as goal

pub returns-in_err-validate_batch : goal.returns-in_err-validate_batch
returns-in_err-validate_batch c = let r : c.from_residual.result ≡ Err c.in_err-validate_batch.field-0.0 = search rules in rw r (all_refused _ _ _ _ (route_validated _ _ _ _ _ _ _ c.validate_legs-list.ensures c.validate_batch.ensures ∙ c.in_err-validate_batch.was) _ _)

pub route_each-requires : goal.route_each-requires
route_each-requires c =
    record {
      replies_value = batch_has_room _ _ _ _ _ (sym c.validate_batch.ensures ∙ c.in_ok-validate_batch.was);
      list_value = c.validate_legs-list.ensures;
    }

pub returns : goal.returns
returns c =
    all_done _ _ _ (route_validated _ _ _ _ _ _ _ c.validate_legs-list.ensures c.validate_batch.ensures ∙ c.in_ok-validate_batch.was) _ _ _ _
    (c.route_each.ensures.out_after, c.route_each.ensures.replies_after)
