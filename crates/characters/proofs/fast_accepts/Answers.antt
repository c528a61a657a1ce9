use native.Mathlib.Omega.{arith}
use borrow.Author.Rules.{rules}
use Rattle.characters.proofs.FastTableLaws.{scans_first, scans_on, scans_end}
use Rattle.characters.proofs.fast_accepts.Goals as goal

pub loop-i-init : goal.loop-i-init
loop-i-init c = search (rules, scans_first)

pub loop-i-preserved : goal.loop-i-preserved
loop-i-preserved c = (
  search rules,
  scans_on _ _ _ _ (search rules) c.loop-i.invariant.1 (omega (arith, c.shared_slice_known-in-loop-i-1.given c.loop-i.i)) c.fast_next-s.ensures,
)

pub returns : goal.returns
returns c = search (rules, scans_end)
