-- The text handed to the write is the replies of the call, which starts in a state that was reached.
use Rattle.std.proofs.Common.{◌≤◌, arith, length, sym, length-take-le}
use Rattle.frame_stream.specs.Progress.{state_between}
use Rattle.frame_stream.proofs.StreamLaws.{process_bounds}
use Rattle.frames.proofs.answer.Goals as goal

pub slice_bounds-write_replies-end : goal.slice_bounds-write_replies-end
slice_bounds-write_replies-end g c =
    let f = c.process_block-reply in
    let bounds = process_bounds c.args.part.now
    (state_between c.args.len c.args.k c.args.line.now c.args.bytes.now c.args.places.now c.args.store.now c.args.slots.now c.args.table.now c.args.out.now)
    _ f.ensures in
    let h : f.result.end ≤ length f.new.out = omega (arith, bounds.1, f.auto.out) in
    sym (length-take-le f.result.end f.new.out h)
