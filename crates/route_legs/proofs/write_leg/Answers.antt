-- Three stores, one after the other, or none if the leg lies beyond the slice.
use native.Mathlib.Omega.{arith}
use lib.ListN.{length-set}
use Rattle.route_legs.proofs.LegBranches.{leg_beyond, leg_stored}
use Rattle.route_legs.proofs.write_leg.Goals as goal

pub returns-then-legs-k : goal.returns-then-legs-k
returns-then-legs-k c = leg_beyond _ _ _ _ _ c.if-legs-k.true

pub bounds-legs-j-2 : goal.bounds-legs-j-2
bounds-legs-j-2 c = simp length-set (omega (arith, c.if-legs-k.false))

pub bounds-legs-j-3 : goal.bounds-legs-j-3
bounds-legs-j-3 c = simp length-set (omega (arith, c.if-legs-k.false))

pub returns : goal.returns
returns c = leg_stored _ _ _ _ _ c.if-legs-k.false
