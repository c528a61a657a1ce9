use Rattle.std.proofs.Common.{rules, Ok, Err}
use mathlib.Core.Path.{◌≡◌, refl, ap, ◌∙◌}
use Rattle.relocate_chain.proofs.CallBranches.{shift_still, shift_refused, shift_part, shift_inside, shift_made}
use Rattle.relocate_chain.proofs.shift_and_copy.Goals as goal

pub slice_bounds-made-end : goal.slice_bounds-made-end
slice_bounds-made-end c = shift_inside _ _ _ c.replace_once-s.ensures.value _ (c.in_ok-len.was ∙ ap Ok c.in-Some.is) _ _ c.replace_once-s.ensures.made_after refl

pub slice_bounds-write_at-end : goal.slice_bounds-write_at-end
slice_bounds-write_at-end c = shift_part _ _ _ c.replace_once-s.ensures.value _ (c.in_ok-len.was ∙ ap Ok c.in-Some.is) _ _ c.replace_once-s.ensures.made_after refl

pub returns-in_default : goal.returns-in_default
returns-in_default c =
    shift_still _ _ _ c.replace_once-s.ensures.value (c.in_ok-len.was ∙ ap Ok c.in_default.is) c.requires.0 _ _ c.requires.1
    c.write_at.ensures

pub returns-in_err-len : goal.returns-in_err-len
returns-in_err-len c = let r : c.from_residual.result ≡ Err c.in_err-len.field-0.0 = search rules in rw r (shift_refused _ _ _ c.replace_once-s.ensures.value _ c.in_err-len.was _)

pub returns : goal.returns
returns c =
    shift_made _ _ _ c.replace_once-s.ensures.value _ (c.in_ok-len.was ∙ ap Ok c.in-Some.is) _ _ c.replace_once-s.ensures.made_after refl _ _
    c.requires.1 c.write_at-2.ensures
