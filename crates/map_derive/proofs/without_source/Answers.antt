use mathlib.Core.Path.{refl}
use native.Mathlib.Omega.{arith}
use Rattle.map_derive.proofs.ListBranches.{without_none, without_on, without_room, without_end}
use borrow.Author.Rules.{rules}
use Rattle.map_derive.proofs.without_source.Goals as goal

pub loop-i-init : goal.loop-i-init
loop-i-init c = (without_none _ _ _ _, refl)

pub keep_other-w-requires : goal.keep_other-w-requires
keep_other-w-requires c =
    record {
      i_in_bounds = omega (arith, c.loop-i-test.true, c.requires.n_in_bounds);
      w_in_bounds = without_room _ _ _ _ _ _ _ c.loop-i-test.true (omega (arith, c.requires.n_in_bounds_2, c.loop-i.invariant.1)) c.loop-i.invariant.0;
    }

pub loop-i-preserved : goal.loop-i-preserved
loop-i-preserved c = (without_on _ _ _ _ _ _ _ _ c.loop-i.invariant.0 c.keep_other-w.ensures, search rules)

pub returns : goal.returns
returns c = without_end _ _ _ _ _ _ _ c.loop-i-test.false c.loop-i.auto.i-end c.loop-i.invariant.0
