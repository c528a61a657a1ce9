use native.Mathlib.Omega.{arith}
use borrow.Author.Rules.{rules}
use Rattle.path_grammar.proofs.CodeLaws.{seen_on, end_scanning, end_on}
use Rattle.path_grammar.proofs.scan_end.Goals as goal

pub returns-then-p-eq0 : goal.returns-then-p-eq0
returns-then-p-eq0 c = search (rules, end_scanning)

pub returns-then-p-ne47 : goal.returns-then-p-ne47
returns-then-p-ne47 c = search (rules, end_scanning)

pub returns-then-p-eq1 : goal.returns-then-p-eq1
returns-then-p-eq1 c = search (rules, end_scanning)

pub loop-i-init : goal.loop-i-init
loop-i-init c = search (rules, end_scanning)

pub loop-i-preserved : goal.loop-i-preserved
loop-i-preserved c = (
  search rules,
  end_on c.args.p.now _ _ _ (search rules) c.loop-i.invariant.1 (omega (arith, c.shared_slice_known-in-loop-i-1.given c.loop-i.i)) c.next_in_end-state.ensures,
  seen_on c.args.p.now c.loop-i.seen c.loop-i.i (search rules) c.loop-i.invariant.2,
)

pub returns-then-state-ge18 : goal.returns-then-state-ge18
returns-then-state-ge18 c = search (rules, end_scanning)

pub returns-then-seen-lt128 : goal.returns-then-seen-lt128
returns-then-seen-lt128 c = search (rules, end_scanning)

pub returns : goal.returns
returns c = search (rules, end_scanning)
