use Rattle.frames_memory.specs.Memory.{frames_memory}
use Rattle.frame_apply.proofs.ApplyBranches.{close_done, close_refused}
use Rattle.frame_apply.proofs.apply_close.Goals as goal

pub returns-in-Ok : goal.returns-in-Ok
returns-in-Ok c =
    let args = c.args in
    close_done _ (frames_memory args.k args.bytes.now args.places.now args.store.now args.slots.now args.table.now) _
    c.close-c.ensures.value _ c.close-c.ensures.store_after _ c.close-c.ensures.slots_after _ c.close-c.ensures.table_after _
    c.in-Ok.is

pub returns-in-Err : goal.returns-in-Err
returns-in-Err c =
    let args = c.args in
    close_refused _ (frames_memory args.k args.bytes.now args.places.now args.store.now args.slots.now args.table.now) _
    c.close-c.ensures.value _ c.close-c.ensures.store_after _ c.close-c.ensures.slots_after _ c.close-c.ensures.table_after _
    c.in-Err.is
