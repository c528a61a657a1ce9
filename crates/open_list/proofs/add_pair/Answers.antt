use Rattle.std.proofs.Common.{rules, Err, ◌≡◌}
-- A refusal writes nothing; a pair that passed validation fits, so that it is pushed.
use native.Mathlib.Omega.{arith}
use Rattle.open_list.proofs.AddBranches.{pair_refused, passed_fits, pair_added}
use Rattle.text.proofs.Clauses.{value_bytes_after_places_after}
use Rattle.open_list.proofs.add_pair.Goals as goal

pub returns-in_err-validate_add : goal.returns-in_err-validate_add
returns-in_err-validate_add c = let r : c.from_residual.result ≡ Err c.in_err-validate_add.field-0.0 = search rules in rw r (value_bytes_after_places_after (pair_refused _ _ _ _ _ _ _ c.validate_add.ensures.value _ c.in_err-validate_add.was))

pub overflow_add-result : goal.overflow_add-result
overflow_add-result c =
    let f = passed_fits _ _ _ _ _ _ c.validate_add.ensures.add_fits c.in_ok-validate_add.was in
    omega (arith, f)

pub returns : goal.returns
returns c =
    value_bytes_after_places_after (pair_added _ _ _ _ _ _ _ c.validate_add.ensures.value c.in_ok-validate_add.was
    c.validate_add.ensures.add_fits _ _ _ (c.push_pair-end.ensures.value, (c.push_pair-end.ensures.bytes_after, c.push_pair-end.ensures.slots_after)))
