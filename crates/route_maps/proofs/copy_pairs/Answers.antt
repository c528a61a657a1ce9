use native.Mathlib.Omega.{arith}
use borrow.Author.Rules.{rules}
use mathlib.Core.Path.{refl}
use Rattle.route_maps.proofs.PrepareBranches.{copy_none, copy_on, copy_end}
use Rattle.route_maps.proofs.copy_pairs.Goals as goal

pub loop-i-init : goal.loop-i-init
loop-i-init c = (copy_none _ _, refl)

pub loop-i-preserved : goal.loop-i-preserved
loop-i-preserved c = (
  (copy_on _ _ _ _ _ (omega (arith, c.requires.0, c.loop-i-test.true))
      (omega (arith, c.requires.1, c.loop-i-test.true, c.loop-i.invariant.1)) c.loop-i.invariant.0
      c.copy_entry.ensures),
  search rules,
)

pub returns : goal.returns
returns c = copy_end _ _ _ _ _ c.loop-i-test.false c.loop-i.auto.i-end c.loop-i.invariant.0
