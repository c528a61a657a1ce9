-- The digits of the two bytes and the newline are written one after the other.
use Rattle.ffi_line.proofs.CallBranches.{short_refused, short_written}
use Rattle.text.proofs.Clauses.{value_out_after}
use Rattle.ffi_line.proofs.write_short.Goals as goal

pub returns-then-out-lt5 : goal.returns-then-out-lt5
returns-then-out-lt5 c = value_out_after (short_refused _ _ _ c.if-out-lt5.true)

pub returns : goal.returns
returns c = value_out_after (short_written c.args.head c.args.answer c.args.out.now c.if-out-lt5.false _ _ c.encode.ensures c.write_at.ensures)
