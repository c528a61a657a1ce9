use Rattle.route.proofs.CallBranches.{enter_kept, enter_stripped}
use borrow.Author.Rules.{rules}
use mathlib.Core.Path.{ap}
use mathlib.Core.Bool.{not}
use Rattle.route.proofs.enter_route.Goals as goal

pub returns-then-not-stripped : goal.returns-then-not-stripped
returns-then-not-stripped c = enter_kept c.args.stripped _ _ c.requires.1 c.requires.0 (ap not c.if-not-stripped.true) _ c.write_at.ensures

pub returns : goal.returns
returns c =
    enter_stripped c.args.stripped _ _ c.requires.1 c.requires.0 _ c.strip_into.ensures.value (ap not c.if-not-stripped.false) _ c.unwrap_or.ensures _
    c.strip_into.ensures.out_after (search rules)
