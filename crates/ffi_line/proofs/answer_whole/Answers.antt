-- The questions put before the line decide the branch.
use Rattle.ffi_line.specs.LineCall.{whole_line}
use Rattle.ffi_line.proofs.CallBranches.{call_short, call_full, call_room, call_open}
use Rattle.text.proofs.Clauses.{value_kept_after_table_after_out_after}
use Rattle.ffi_line.proofs.answer_whole.Goals as goal

pub process_line-requires : goal.process_line-requires
process_line-requires c =
    let args = c.args in
    call_room args.kept.now args.bytes.now args.places.now args.store.now args.slots.now args.table.now args.out.now
    (whole_line args.line.now) _ c.check_line-c.ensures c.in-Open.is

pub returns-in-Short : goal.returns-in-Short
returns-in-Short c =
    let args = c.args in
    value_kept_after_table_after_out_after (call_short args.kept.now args.bytes.now args.places.now args.store.now args.slots.now args.table.now args.out.now
    (whole_line args.line.now) _ c.check_line-c.ensures _ _ c.in-Short.is _ _ c.write_short.ensures.value c.write_short.ensures.out_after)

pub returns-in-NoSpace : goal.returns-in-NoSpace
returns-in-NoSpace c =
    let args = c.args in
    value_kept_after_table_after_out_after (call_full args.kept.now args.bytes.now args.places.now args.store.now args.slots.now args.table.now args.out.now
    (whole_line args.line.now) _ c.check_line-c.ensures c.in-NoSpace.is)

pub returns-in-Open : goal.returns-in-Open
returns-in-Open c =
    let args = c.args in
    value_kept_after_table_after_out_after (call_open args.kept.now args.bytes.now args.places.now args.store.now args.slots.now args.table.now args.out.now
    (whole_line args.line.now) _ c.check_line-c.ensures c.in-Open.is _ _ _ _ c.process_line.ensures.processes_line
    c.process_line.ensures.table_after)
