-- The bytes that are not consumed are those from `at` to `end`; when there are none, a block is read, or the input has ended.
use Rattle.std.proofs.Common.{◌-◌, ◌∙◌, sym, arith, drop, length-take}
use Rattle.std.proofs.KnownBytes.{Keeps-refl}
use Rattle.frame_stream.specs.Progress.{state_between, unconsumed}
use Rattle.frame_stream.proofs.StreamLaws.{process_bounds}
use Rattle.frame_stream.proofs.ProgressLaws.{next_called}
use Rattle.frames.proofs.MoveLaws.{call_moved}
use Rattle.frames.proofs.LoopStateLaws.{not_done, went_on}
use Rattle.frames.proofs.step.Goals as goal

pub overflow_add-result : goal.overflow_add-result
overflow_add-result g c =
    let args = c.args in
    let bounds = process_bounds (unconsumed args.block.now args.at args.end)
    (state_between c.args.len c.args.k c.args.line.now c.args.bytes.now c.args.places.now c.args.store.now c.args.slots.now c.args.table.now c.args.out.now)
    _ c.answer-p.ensures.called in
    omega (arith, c.if-at-end.true, c.requires.end_bound, bounds.0, length-take (args.end - args.at) (drop args.at args.block.now))

pub returns-then-at-end-clause-fact : goal.returns-then-at-end-clause-fact
returns-then-at-end-clause-fact g c =
    let args = c.args in (
      (λ _. next_called args.block.now args.at args.end
          (state_between c.args.len c.args.k c.args.line.now c.args.bytes.now c.args.places.now c.args.store.now c.args.slots.now c.args.table.now c.args.out.now)
          _ c.answer-p.ensures.called),
      λ e. absurd (not_done _ (sym c.unless_failed.ensures ∙ e)),
    )

pub returns-then-at-end-clause-next : goal.returns-then-at-end-clause-next
returns-then-at-end-clause-next g c =
    let args = c.args in
    λ h. call_moved args.block.now args.at args.end
    (state_between c.args.len c.args.k c.args.line.now c.args.bytes.now c.args.places.now c.args.store.now c.args.slots.now c.args.table.now c.args.out.now)
    _ _ _ _ _ c.answer-p.ensures.called (Keeps-refl _) (c.answer-p.ensures.all (went_on _ (sym c.unless_failed.ensures ∙ h)))
