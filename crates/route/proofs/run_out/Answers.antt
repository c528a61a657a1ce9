use borrow.Author.Rules.{rules}
use Rattle.route.proofs.RunBranches.{holds_size, out_begin, out_on, out_stopped, out_end}
use Rattle.route.proofs.UnalteredBranches.{refused_run, out_first, out_fewer, out_all}
use Rattle.route.proofs.run_out.Goals as goal

pub loop-k-init : goal.loop-k-init
loop-k-init c = (search rules, search rules, out_begin _ _ _ _ _, out_first _ _ _ _ _ _)

pub returns-in_default : goal.returns-in_default
returns-in_default c =
    let run = c.run_legs-run.ensures in
    refused_run _ _ _ _ _
    (out_stopped _ _ _ _ _ _ c.loop-k.at c.loop-k.here c.loop-k.invariant.2 _ _ run.outcome c.loop-k-test.true _
    c.in_default.is)
    c.in_default.is

pub loop-k-preserved : goal.loop-k-preserved
loop-k-preserved c =
    let run = c.run_legs-run.ensures in
    let inv = c.loop-k.invariant in
    let written = c.in-Ok.is in (
      holds_size _ _ _ run.outcome _ written (search rules),
      search rules,
      out_on _ _ _ _ _ _ c.loop-k.at c.loop-k.here inv.2 _ _ run.outcome _ written,
      out_fewer _ _ _ _ _ _ _ c.loop-k.at c.loop-k.here inv.2 _ inv.3 _ _ run _ written _ (search rules),
    )

pub returns : goal.returns
returns c =
    let inv = c.loop-k.invariant in
    out_all _ _ _ _ _ _ _ _ _ _ c.loop-k-test.false c.loop-k.auto.k-end inv.3 (out_end _ _ _ _ _ _ _ _ c.loop-k-test.false c.loop-k.auto.k-end inv.2 inv.0 inv.1)
