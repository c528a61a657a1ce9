use Rattle.std.proofs.Common.{◌∙◌}
use Rattle.line_reader.proofs.TakeLaws.{most_min}
use Rattle.line_reader.proofs.line_capacity.Goals as goal

pub returns : goal.returns
returns c = c.min.ensures ∙ most_min c.args.room
