use Rattle.frame_answer.proofs.LineBranches.{line_written}
use Rattle.frame_answer.proofs.write_line.Goals as goal

pub returns : goal.returns
returns c = line_written _ _ _ _ _ c.requires _ _ _ c.encode.ensures c.encode-2.ensures c.write_at.ensures
