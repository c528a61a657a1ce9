-- Each turn of the outer loop writes the final status of pair i, at the first reason to drop it or after all pairs were looked at.
use Rattle.std.proofs.Common.{◌≡◌, ℕ, zero, suc, ◌+◌, ◌∙◌, Bool, true, false, arith, refl, sym, add-one, not}
use Rattle.relocates.specs.Status.{any_below}
use Rattle.relocates.proofs.StatusBranches.{some_hit}
use Rattle.relocates.proofs.InitialBranches.{settle_begin, settle_on, final_dropped, final_conflict, final_active}
use Rattle.relocates.proofs.status.write_conflicts.Goals as goal

some_none : (f : ℕ → Bool) → false ≡ any_below 0 f
unfolding any_below
some_none f = refl

some_on : (f : ℕ → Bool) (k : ℕ) → any_below k f ≡ false → f k ≡ false → any_below (k + 1) f ≡ false
unfolding any_below
some_on f k h e = rw (add-one k, h, e)

pub pairs-init : goal.pairs-init
pairs-init c = settle_begin _ _ _ _

pub pairs-preserved-then-own-ne0 : goal.pairs-preserved-then-own-ne0
pairs-preserved-then-own-ne0 c =
    settle_on _ _ _ _ _ _ _ c.requires.n_bound.1 c.pairs-test.true c.pairs.invariant
    (final_dropped _ _ _ _ c.requires.holds_initial_statuses _ c.pairs-test.true c.if-own-ne0.true)

pub loop-j-init : goal.loop-j-init
loop-j-init c = (refl, sym (some_none _))

pub pairs-preserved-then-conflicts_with : goal.pairs-preserved-then-conflicts_with
pairs-preserved-then-conflicts_with c =
    settle_on _ _ _ _ _ _ _ c.requires.n_bound.1 c.pairs-test.true (c.loop-j.invariant.0 ∙ c.pairs.invariant)
    (final_conflict _ _ _ _ c.requires.holds_initial_statuses _ c.pairs-test.true c.if-own-ne0.false true
    (sym (some_hit _ _ _ c.loop-j-test.true (sym c.conflicts_with.ensures ∙ c.if-conflicts_with.true))) refl _ c.from.ensures)

pub loop-j-preserved : goal.loop-j-preserved
loop-j-preserved c = (c.loop-j.invariant.0, some_on _ _ c.loop-j.invariant.1 (sym c.conflicts_with.ensures ∙ c.if-conflicts_with.false))

pub pairs-preserved : goal.pairs-preserved
pairs-preserved c =
    let end : c.loop-j.j ≡ c.args.n = omega (arith, c.loop-j-test.false, c.loop-j.auto.j-end) in
    settle_on _ _ _ _ _ _ _ c.requires.n_bound.1 c.pairs-test.true (c.loop-j.invariant.0 ∙ c.pairs.invariant)
    (final_active _ _ _ _ c.requires.holds_initial_statuses _ c.pairs-test.true c.if-own-ne0.false false
    (sym (rw end at c.loop-j.invariant.1)) refl _ c.from-in-pairs.ensures)
