use native.Mathlib.Omega.{arith}
use lib.ListN.{length-set}
use Rattle.pair_list_write.proofs.WriteBranches.{entry_over, entry_fits}
use Rattle.pair_list_write.proofs.write_entry.Goals as goal

pub returns-then-slots-w : goal.returns-then-slots-w
returns-then-slots-w c = entry_over _ _ _ _ _ _ c.if-slots-w.true

pub bounds-slots-j-2 : goal.bounds-slots-j-2
bounds-slots-j-2 c = simp length-set (omega (arith, c.if-slots-w.false))

pub bounds-slots-j-3 : goal.bounds-slots-j-3
bounds-slots-j-3 c = simp length-set (omega (arith, c.if-slots-w.false))

pub bounds-slots-j-4 : goal.bounds-slots-j-4
bounds-slots-j-4 c = simp length-set (omega (arith, c.if-slots-w.false))

pub returns : goal.returns
returns c = entry_fits _ _ _ _ _ _ c.if-slots-w.false
