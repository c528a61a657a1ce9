use Rattle.text.proofs.TableLaws.{shifted}
use Rattle.path_grammar.proofs.next_in_end.Goals as goal

pub returns : goal.returns
returns c = shifted _ _ _ c.end_row.ensures
