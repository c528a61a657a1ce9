use Rattle.text.proofs.TableLaws.{shifted}
use Rattle.characters.proofs.fast_next.Goals as goal

pub returns : goal.returns
returns c = shifted _ _ _ c.fast_row.ensures
