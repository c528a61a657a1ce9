use mathlib.Core.Path.{refl}
use native.Mathlib.Omega.{arith}
use lib.ListN.{length-set}
use Rattle.map_canonical.proofs.KeepBranches.{counted_none, most_none, counted_on, most_on, counted_end, most_end}
use Rattle.map_canonical.proofs.fill_element_counts.Goals as goal

pub loop-i-init : goal.loop-i-init
loop-i-init c = (c.requires, counted_none _ _ _, most_none _ _, refl)

pub bounds-keys-i : goal.bounds-keys-i
bounds-keys-i c = omega (arith, c.loop-i-test.true, c.loop-i.invariant.0)

pub loop-i-preserved : goal.loop-i-preserved
loop-i-preserved c = (
  simp length-set (omega (arith, c.loop-i.invariant.0)),
  (counted_on _ _ _ _ _ _ (omega (arith, c.loop-i-test.true, c.loop-i.invariant.0)) c.key_at.ensures
      c.element_count-e.ensures c.loop-i.invariant.1),
  most_on _ _ _ _ _ _ _ c.key_at.ensures c.element_count-e.ensures c.max.ensures
      c.loop-i.invariant.2,
  simp length-set c.loop-i.invariant.3,
)

pub returns : goal.returns
returns c =
    record {
      holds_element_counts = counted_end _ _ _ _ _ c.loop-i-test.false c.loop-i.invariant.1;
      result_value = most_end _ _ _ _ _ c.loop-i-test.false c.loop-i.auto.i-end c.loop-i.invariant.2;
    }
