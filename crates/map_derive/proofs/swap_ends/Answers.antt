use native.Mathlib.Omega.{arith}
use mathlib.Core.Path.{refl}
use Rattle.map_derive.proofs.SwapLaws.{swap_beyond, swap_room, swap_none, swap_on, swap_end}
use borrow.Author.Rules.{rules}
use Rattle.map_derive.proofs.swap_ends.Goals as goal
use Rattle.map_derive.proofs.swap_ends.Goals.{then-places-n-via-then-places-n, then-places-n-via-else-places-n+then-other-n}

pub returns-then-places-n : goal.returns-then-places-n
returns-then-places-n c = elim c.then-places-n.branch [
  | then-places-n-via-then-places-n w ↦ swap_beyond _ _ _ (omega arith)
  | then-places-n-via-else-places-n+then-other-n w ↦ swap_room c.args.places.now _ _ (omega arith)
]

pub loop-i-init : goal.loop-i-init
loop-i-init c = (swap_none c.args.places.now _, refl)

pub loop-i-preserved : goal.loop-i-preserved
loop-i-preserved c = (
  (swap_on _ _ _ _ c.loop-i.invariant.0 (omega arith) _ c.write_entry.ensures),
  search rules,
)

pub returns : goal.returns
returns c = swap_end _ _ _ _ c.loop-i.invariant.0 _ (omega arith) (omega arith) c.loop-i-test.false c.loop-i.auto.i-end
