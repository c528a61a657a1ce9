use borrow.Author.Rules.{rules}
use Rattle.route.proofs.RunBranches.{holds_size, home_begin, home_on, home_stopped, home_end}
use Rattle.route.proofs.UnalteredBranches.{refused_run, home_first, home_fewer, home_all}
use Rattle.route.proofs.run_home.Goals as goal

pub loop-k-init : goal.loop-k-init
loop-k-init c = (search rules, search rules, home_begin _ _ _ _ _, home_first _ _ _ _ _ _)

pub returns-in_default : goal.returns-in_default
returns-in_default c =
    let run = c.run_legs-run.ensures in
    refused_run _ _ _ _ _
    (home_stopped _ _ _ _ _ _ c.loop-k.at c.loop-k.here c.loop-k-test.true c.loop-k.invariant.2 _ _ run.outcome _
    c.in_default.is)
    c.in_default.is

pub loop-k-preserved : goal.loop-k-preserved
loop-k-preserved c =
    let run = c.run_legs-run.ensures in
    let inv = c.loop-k.invariant in
    let written = c.in-Ok.is in (
      holds_size _ _ _ run.outcome _ written (search rules),
      search rules,
      home_on _ _ _ _ _ _ c.loop-k.at c.loop-k.here c.loop-k-test.true inv.2 _ _ run.outcome _ written,
      home_fewer _ _ _ _ _ _ c.loop-k.at c.loop-k.here c.loop-k-test.true _ inv.3 _ _ run _ written _ (search rules),
    )

pub returns : goal.returns
returns c =
    let inv = c.loop-k.invariant in
    home_all _ _ _ _ _ _ _ _ _ _ c.loop-k-test.false inv.3 (home_end _ _ _ _ _ _ _ _ c.loop-k-test.false inv.2 inv.0 inv.1)
