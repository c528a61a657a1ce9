-- The list's own refusal first, then the count of paths, then the sizes of the buffers: each branch is one lemma.
use Rattle.std.proofs.Common.{rules, Err, ◌≡◌}
use Rattle.batch.proofs.BatchLaws.{batch_refused, batch_beyond, batch_short, batch_passed}
use mathlib.Core.Path.{ap}
use mathlib.Core.Bool.{not}
use Rattle.batch.proofs.validate_batch.Goals as goal

pub returns-in_err-list : goal.returns-in_err-list
returns-in_err-list c = let r : c.from_residual.result ≡ Err c.in_err-list.field-0.0 = search rules in rw r (batch_refused _ _ _ _ _ _ c.in_err-list.was)

pub returns-then-spots-n : goal.returns-then-spots-n
returns-then-spots-n c = batch_beyond _ _ _ _ _ c.in_ok-list.was c.if-spots-n.true

pub returns-then-not-batch_fits : goal.returns-then-not-batch_fits
returns-then-not-batch_fits c = batch_short _ _ _ _ _ c.in_ok-list.was c.if-spots-n.false _ c.batch_fits.ensures (ap not c.if-not-batch_fits.true)

pub returns : goal.returns
returns c = batch_passed _ _ _ _ _ c.in_ok-list.was c.if-spots-n.false _ c.batch_fits.ensures (ap not c.if-not-batch_fits.false)
