use Rattle.std.proofs.Common.{rules, Err, ◌≡◌}
use mathlib.Core.Path.{refl}
use Rattle.path_target.proofs.CallLaws.{made_inside, made_size, made_short, made_checked, replaced_refused}
use Rattle.path_target.proofs.write_replaced.Goals as goal

-- the clauses by their names
by_clause_made_len_bound : {A B : Type 0} → A × B → record { made_len_bound : A; in_bounds : B }
by_clause_made_len_bound t = record { made_len_bound = t.0; in_bounds = t.1 }

pub slice_bounds-made-end : goal.slice_bounds-made-end
slice_bounds-made-end c = made_inside _ _ _ c.replace_target_into.ensures.value refl _ c.in_ok-n.was _ c.replace_target_into.ensures.out_after

pub slice_bounds-write_if_legal-end : goal.slice_bounds-write_if_legal-end
slice_bounds-write_if_legal-end c = made_size _ _ _ c.replace_target_into.ensures.value refl _ c.in_ok-n.was _ c.replace_target_into.ensures.out_after

pub write_if_legal-requires : goal.write_if_legal-requires
write_if_legal-requires c = by_clause_made_len_bound (made_short _ _ _ c.replace_target_into.ensures.value refl _ c.in_ok-n.was _ c.replace_target_into.ensures.out_after, c.requires)

pub returns : goal.returns
returns c = made_checked _ _ _ c.replace_target_into.ensures.value refl _ c.in_ok-n.was _ c.replace_target_into.ensures.out_after _ _ _ c.write_if_legal.ensures

pub returns-in_err-n : goal.returns-in_err-n
returns-in_err-n c = let r : c.from_residual.result ≡ Err c.in_err-n.field-0.0 = search rules in replaced_refused _ _ _ c.replace_target_into.ensures.value refl _ c.in_err-n.was _ r _
