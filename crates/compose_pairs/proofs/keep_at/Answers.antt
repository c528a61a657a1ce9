use Rattle.compose_pairs.proofs.PlainMappingBranches.{keep_none, keep_some}
use Rattle.text.proofs.Clauses.{value_bytes_after}
use mathlib.Core.Path.{ap}
use mathlib.Core.Bool.{not}
use Rattle.compose_pairs.proofs.keep_at.Goals as goal

pub returns-then-not-mark : goal.returns-then-not-mark
returns-then-not-mark c =
    let args = c.args in
    value_bytes_after (keep_none args.mark args.path.now args.at _ (ap not c.if-not-mark.true))

pub returns : goal.returns
returns c = value_bytes_after (keep_some c.args.mark _ _ _ (ap not c.if-not-mark.false) _ c.write_at.ensures)
