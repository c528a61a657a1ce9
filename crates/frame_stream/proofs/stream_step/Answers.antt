use Rattle.text.proofs.BoolLaws.{not_true, not_false}
use Rattle.frames_memory.specs.Memory.{frames_memory}
use Rattle.frame_stream.proofs.StepBranches.{step_part, step_line}
use Rattle.frame_stream.proofs.stream_step.Goals as goal

pub returns-then-not-t : goal.returns-then-not-t
returns-then-not-t c =
    let args = c.args in
    let t = c.take_line-t in
    step_part args.block.now args.line.now t.new.line args.len args.end args.out.now
    (frames_memory args.k args.bytes.now args.places.now args.store.now args.slots.now args.table.now) t.result
    t.ensures.value t.ensures.line_after (not_true t.result.done c.if-not-t.true)

pub returns : goal.returns
returns c =
    let args = c.args in
    let t = c.take_line-t in
    let r = c.answer_line-a in
    step_line args.block.now args.line.now t.new.line args.len args.end args.out.now
    (frames_memory args.k args.bytes.now args.places.now args.store.now args.slots.now args.table.now) t.result
    t.ensures.value t.ensures.line_after c.requires (not_false t.result.done c.if-not-t.false) _ r.result.end
    r.new.out r.ensures.table_after r.ensures.end_value r.ensures.out_after
