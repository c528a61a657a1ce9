use Rattle.text.proofs.TableLaws.{shifted}
use Rattle.path_grammar.proofs.next.Goals as goal

pub returns : goal.returns
returns c = shifted _ _ _ c.row.ensures
