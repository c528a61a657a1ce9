use Rattle.text.proofs.WriteLaws.{fit_inside, fit_part}
use Rattle.relocate_chain.proofs.StepBranches.{once_still, once_long, once_text, once_over, once_illegal, once_made}
use mathlib.Core.Path.{ap}
use mathlib.Core.Bool.{not}
use Rattle.relocate_chain.proofs.steps.replace_once.Goals as goal

-- the clauses by their names
by_clause_value : {A B : Type 0} → A × B → record { value : A; made_after : B }
by_clause_value t = record { value = t.0; made_after = t.1 }

pub returns-in_default : goal.returns-in_default
returns-in_default c = by_clause_value (once_still _ _ _ _ _ _ c.longest_source.result c.longest_source.ensures c.in_default.is _)

pub slice_bounds-join-count : goal.slice_bounds-join-count
slice_bounds-join-count c =
    once_long _ _ _ _ _ _ c.longest_source.result c.longest_source.ensures c.in-Some.f c.in-Some.is _ _
    c.key_at-old.ensures c.key_at-new.ensures

pub slice_bounds-join-start : goal.slice_bounds-join-start
slice_bounds-join-start c =
    once_long _ _ _ _ _ _ c.longest_source.result c.longest_source.ensures c.in-Some.f c.in-Some.is _ _
    c.key_at-old.ensures c.key_at-new.ensures

pub slice_bounds-is_legal-end : goal.slice_bounds-is_legal-end
slice_bounds-is_legal-end c = fit_inside _ _ _ c.join.ensures.value _ c.in-Some-join.is _ c.join.ensures.out_after

pub slice_bounds-is_legal-end-2 : goal.slice_bounds-is_legal-end-2
slice_bounds-is_legal-end-2 c = fit_part _ _ _ c.join.ensures.value _ c.in-Some-join.is _ c.join.ensures.out_after

pub returns-then-not-is_legal : goal.returns-then-not-is_legal
returns-then-not-is_legal c =
    by_clause_value (once_illegal _ _
    (once_text _ _ _ _ _ _ c.longest_source.result c.longest_source.ensures c.in-Some.f c.in-Some.is _ _
    c.key_at-old.ensures c.key_at-new.ensures)
    _ c.requires _ c.join.ensures.value _ c.join.ensures.out_after _ c.in-Some-join.is _ c.is_legal.ensures
    (ap not c.if-not-is_legal.true))

pub returns : goal.returns
returns c =
    by_clause_value (once_made _ _
    (once_text _ _ _ _ _ _ c.longest_source.result c.longest_source.ensures c.in-Some.f c.in-Some.is _ _
    c.key_at-old.ensures c.key_at-new.ensures)
    _ c.requires _ c.join.ensures.value _ c.join.ensures.out_after _ c.in-Some-join.is _ c.is_legal.ensures
    (ap not c.if-not-is_legal.false))

pub returns-in_default-join : goal.returns-in_default-join
returns-in_default-join c =
    by_clause_value (once_over _ _
    (once_text _ _ _ _ _ _ c.longest_source.result c.longest_source.ensures c.in-Some.f c.in-Some.is _ _
    c.key_at-old.ensures c.key_at-new.ensures)
    _ c.requires _ c.join.ensures.value _ c.join.ensures.out_after c.in_default-join.is)
