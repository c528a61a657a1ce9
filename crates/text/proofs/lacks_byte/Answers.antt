use Rattle.text.proofs.TextLaws.{lacks_contains}
use Rattle.std.proofs.Common.{◌∙◌, ap, not}
use Rattle.text.proofs.lacks_byte.Goals as goal

pub returns : goal.returns
returns c = ap not c.contains.ensures.value ∙ lacks_contains _ _
