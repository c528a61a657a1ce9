-- Two stores, one after the other, or none if the place lies beyond the slice.
use native.Mathlib.Omega.{arith}
use lib.ListN.{length-set}
use Rattle.text_list.proofs.PlaceBranches.{place_over, place_stored}
use Rattle.text_list.proofs.write_place.Goals as goal

pub returns-then-places-j : goal.returns-then-places-j
returns-then-places-j c = place_over _ _ _ _ c.if-places-j.true

pub bounds-places-i-2 : goal.bounds-places-i-2
bounds-places-i-2 c = simp length-set (omega (arith, c.if-places-j.false))

pub returns : goal.returns
returns c = place_stored _ _ _ _ c.if-places-j.false
