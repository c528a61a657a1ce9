use mathlib.Core.Path.{refl, sym, ◌∙◌}
use Prim.Native.Nat.{◌-◌, ◌≤◌}
use native.Mathlib.Omega.{arith}
use lib.ListN.{length}
use Rattle.frame_stream.specs.Stream.{stream_state}
use Rattle.frame_stream.proofs.StreamLaws.{process_step, process_used, process_full}
use Rattle.frame_stream.proofs.process_block.Goals as goal

pub loop-used-init : goal.loop-used-init
loop-used-init c = (omega arith, omega arith, refl, refl, refl, refl, refl, refl, refl, refl)

pub stream_step-t-requires : goal.stream_step-t-requires
stream_step-t-requires c =
    let l = c.loop-used in
    let room : 515 ≤ length l.out - l.end = c.if-out-end-ge-MAX_ANSWER_LINE.true in
    omega (arith, l.invariant.1, l.invariant.9)

pub overflow_add-used : goal.overflow_add-used
overflow_add-used c =
    let l = c.loop-used in
    let room : 515 ≤ length l.out - l.end = c.if-out-end-ge-MAX_ANSWER_LINE.true in
    let step = process_step c.args.block.now
    (stream_state (record { used = l.used; len = l.n; kept = l.kept; end = l.end }) l.line l.bytes l.places l.store l.slots
    l.table l.out)
    _ (omega (arith, c.loop-used-test.true)) (omega (arith, room, l.invariant.1, l.invariant.9)) c.stream_step-t.ensures in
    omega (arith, step.inside, c.well_formed)

pub loop-used-smaller : goal.loop-used-smaller
loop-used-smaller c =
    let l = c.loop-used in
    let room : 515 ≤ length l.out - l.end = c.if-out-end-ge-MAX_ANSWER_LINE.true in
    let step = process_step c.args.block.now
    (stream_state (record { used = l.used; len = l.n; kept = l.kept; end = l.end }) l.line l.bytes l.places l.store l.slots
    l.table l.out)
    _ (omega (arith, c.loop-used-test.true)) (omega (arith, room, l.invariant.1, l.invariant.9)) c.stream_step-t.ensures in
    omega (arith, step.inside, step.further)

pub loop-used-preserved : goal.loop-used-preserved
loop-used-preserved c =
    let l = c.loop-used in
    let t = c.stream_step-t in
    let room : 515 ≤ length l.out - l.end = c.if-out-end-ge-MAX_ANSWER_LINE.true in
    let step = process_step c.args.block.now
    (stream_state (record { used = l.used; len = l.n; kept = l.kept; end = l.end }) l.line l.bytes l.places l.store l.slots
    l.table l.out)
    _ (omega (arith, c.loop-used-test.true)) (omega (arith, room, l.invariant.1, l.invariant.9)) t.ensures in (
      step.inside,
      omega (arith, step.fits, l.invariant.9),
      step.same ∙ l.invariant.2,
      t.auto.line ∙ l.invariant.3,
      t.auto.bytes ∙ l.invariant.4,
      t.auto.places ∙ l.invariant.5,
      t.auto.store ∙ l.invariant.6,
      t.auto.slots ∙ l.invariant.7,
      t.auto.table ∙ l.invariant.8,
      t.auto.out ∙ l.invariant.9,
    )

pub returns-else-out-end-ge-MAX_ANSWER_LINE : goal.returns-else-out-end-ge-MAX_ANSWER_LINE
returns-else-out-end-ge-MAX_ANSWER_LINE c =
    let l = c.loop-used in
    sym
    (process_full c.args.block.now
    (stream_state (record { used = l.used; len = l.n; kept = l.kept; end = l.end }) l.line l.bytes l.places l.store l.slots
    l.table l.out)
    (omega (arith, c.if-out-end-ge-MAX_ANSWER_LINE.false, l.invariant.1, l.invariant.9)))
    ∙ l.invariant.2

pub returns-after-loop-used : goal.returns-after-loop-used
returns-after-loop-used c =
    let l = c.loop-used in
    sym
    (process_used c.args.block.now
    (stream_state (record { used = l.used; len = l.n; kept = l.kept; end = l.end }) l.line l.bytes l.places l.store l.slots
    l.table l.out)
    (omega (arith, c.loop-used-test.false)))
    ∙ l.invariant.2
