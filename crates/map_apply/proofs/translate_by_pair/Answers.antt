use Rattle.std.proofs.Common.{rules, Err, ◌≡◌}
use mathlib.Core.Path.{refl}
use Rattle.text.proofs.WriteLaws.{fit_part, fit_inside}
use Rattle.refusal.proofs.CallBranches.{refusing, answering, ok_or_refused}
use Rattle.map_apply.proofs.TranslateBranches.{pair_over, pair_other, pair_same}
use mathlib.Core.Path.{ap}
use mathlib.Core.Bool.{not}
use Rattle.map_apply.proofs.translate_by_pair.Goals as goal

pub returns-in_err-len : goal.returns-in_err-len
returns-in_err-len c =
    let r : c.from_residual.result ≡ Err c.in_err-len.field-0.0 = search rules in
    rw (r, ok_or_refused _ _ _ c.in_err-len.ensures.ok_part c.in_err-len.ensures.value)
    (refusing _ _ (pair_over _ _ _ _ _ _ _ _ _ _ c.join.ensures.value refl c.in_err-len.ensures.ok_part) _)

pub slice_bounds-made-end : goal.slice_bounds-made-end
slice_bounds-made-end c = fit_inside _ _ _ c.join.ensures.value _ c.in_ok-len.ensures.ok_part _ c.join.ensures.out_after

pub slice_bounds-is_longest_match-end : goal.slice_bounds-is_longest_match-end
slice_bounds-is_longest_match-end c = fit_part _ _ _ c.join.ensures.value _ c.in_ok-len.ensures.ok_part _ c.join.ensures.out_after

pub returns-then-not-is_longest_match : goal.returns-then-not-is_longest_match
returns-then-not-is_longest_match c =
    refusing _ _
    (pair_other _ _ _ _ _ _ _ _ _ _ c.join.ensures.value refl _ c.in_ok-len.ensures.ok_part _ c.join.ensures.out_after _
    c.is_longest_match.ensures (ap not c.if-not-is_longest_match.true))
    _

pub slice_bounds-made-end-2 : goal.slice_bounds-made-end-2
slice_bounds-made-end-2 c = fit_inside _ _ _ c.join.ensures.value _ c.in_ok-len.ensures.ok_part _ c.join.ensures.out_after

pub slice_bounds-finish_join-end : goal.slice_bounds-finish_join-end
slice_bounds-finish_join-end c = fit_part _ _ _ c.join.ensures.value _ c.in_ok-len.ensures.ok_part _ c.join.ensures.out_after

pub returns : goal.returns
returns c =
    answering _ _
    (pair_same _ _ _ _ _ _ _ _ _ _ c.join.ensures.value refl _ c.in_ok-len.ensures.ok_part _ c.join.ensures.out_after _
    c.is_longest_match.ensures _ (ap not c.if-not-is_longest_match.false) c.is_join_illegal-illegal.ensures)
    _ _ _ c.finish_join.ensures
