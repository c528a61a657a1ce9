use Rattle.relocate_chain.proofs.ChainBranches.{chain_begin, chain_end, chain_still, chain_stopped, chain_short, chain_inside, chain_part, chain_on}
use borrow.Author.Rules.{rules}
use Rattle.std.proofs.Common.{Ok, Err}
use mathlib.Core.Path.{◌≡◌, sym, ap, ◌∙◌}
use lib.Seq.{length-take-le}
use Rattle.relocate_chain.proofs.steps.chain_into.Goals as goal

-- the clauses by their names
by_clause_current_after : {A B : Type 0} → A × B → record { current_after : A; chain_within : B }
by_clause_current_after t = record { current_after = t.0; chain_within = t.1 }

pub loop-k-init : goal.loop-k-init
loop-k-init c = (
  (c.requires.0),
  search rules,
  search rules,
  (chain_begin _ _ _ _ _ _ _ c.write_at.ensures c.requires.0 c.requires.1),
)

pub slice_bounds-replace_once-end-in-loop-k : goal.slice_bounds-replace_once-end-in-loop-k
slice_bounds-replace_once-end-in-loop-k c = sym (length-take-le c.loop-k.len c.loop-k.current (search rules))

pub returns-in_default : goal.returns-in_default
returns-in_default c =
    by_clause_current_after (
      chain_still _ _ _ _ _ c.loop-k.len c.loop-k.current c.loop-k.invariant.3 c.loop-k-test.true _
          c.replace_once-step.ensures.value (c.in_ok-m.was ∙ ap Ok c.in_default.is),
      c.loop-k.invariant.0,
    )

pub returns-in_err-m : goal.returns-in_err-m
returns-in_err-m c =
    let r : c.from_residual.result ≡ Err c.in_err-m.field-0.0 = search rules in
    rw r (
    by_clause_current_after (
      chain_stopped _ _ _ _ _ c.loop-k.len c.loop-k.current c.loop-k.invariant.3 c.loop-k-test.true _
          c.replace_once-step.ensures.value _ c.in_err-m.was,
      tt,
    )
    )

pub slice_bounds-made-end : goal.slice_bounds-made-end
slice_bounds-made-end c =
    chain_inside _ _ _ _ _ c.loop-k.len c.loop-k.current c.loop-k.invariant.3 c.loop-k-test.true _
    c.replace_once-step.ensures.value _ (c.in_ok-m.was ∙ ap Ok c.in-Some.is) _ _ c.replace_once-step.ensures.made_after c.loop-k.invariant.2

pub slice_bounds-write_at-end : goal.slice_bounds-write_at-end
slice_bounds-write_at-end c =
    chain_part _ _ _ _ _ c.loop-k.len c.loop-k.current c.loop-k.invariant.3 c.loop-k-test.true _
    c.replace_once-step.ensures.value _ (c.in_ok-m.was ∙ ap Ok c.in-Some.is) _ _ c.replace_once-step.ensures.made_after c.loop-k.invariant.2

pub loop-k-preserved : goal.loop-k-preserved
loop-k-preserved c = (
  (chain_short _ _ _ _ _ c.loop-k.len c.loop-k.current c.loop-k.invariant.3 c.loop-k-test.true _
      c.replace_once-step.ensures.value _ (c.in_ok-m.was ∙ ap Ok c.in-Some.is)),
  search rules,
  search rules,
  (chain_on _ _ _ _ _ c.loop-k.len c.loop-k.current c.loop-k.invariant.3 c.loop-k-test.true _
      c.replace_once-step.ensures.value _ (c.in_ok-m.was ∙ ap Ok c.in-Some.is) _ _ c.replace_once-step.ensures.made_after c.loop-k.invariant.2 _
      c.write_at-in-loop-k.ensures c.loop-k.invariant.1),
)

pub returns : goal.returns
returns c =
    by_clause_current_after (chain_end _ _ _ _ _ c.loop-k.len c.loop-k.current c.loop-k.invariant.3 c.loop-k-test.false c.loop-k.auto.k-end, c.loop-k.invariant.0)
