use Rattle.frame_answer.proofs.FrameBranches.{reply_room}
use Rattle.frame_answer.proofs.FrameBranches.{reply_written, reply_refused, fitting_room}
use Rattle.text.proofs.WriteLaws.{part_size}
use Rattle.frame_answer.proofs.write_reply.Goals as goal

pub slice_bounds-write_line-end : goal.slice_bounds-write_line-end
slice_bounds-write_line-end c = part_size _ _ (fitting_room _ _ _ c.in-Ok.is c.requires.payload_fits)

pub write_line-requires : goal.write_line-requires
write_line-requires c = reply_room _ _ _ c.args.out.now (fitting_room _ _ _ c.in-Ok.is c.requires.payload_fits) c.requires.payload_len.0 c.requires.payload_len.1

pub returns-in-Ok : goal.returns-in-Ok
returns-in-Ok c = reply_written _ _ _ _ _ _ _ _ c.in-Ok.is c.write_line.ensures

pub returns-in-Err : goal.returns-in-Err
returns-in-Err c = reply_refused _ _ _ _ _ _ _ _ _ c.in-Err.is c.number_byte.ensures c.write_line-in-Err.ensures
