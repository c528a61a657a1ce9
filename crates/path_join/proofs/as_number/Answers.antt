-- A bool is stored as the byte 0 or 1.
use Rattle.path_join.proofs.LayoutLaws.{number_is}
use Rattle.path_join.proofs.as_number.Goals as goal

pub returns : goal.returns
returns c = number_is _
