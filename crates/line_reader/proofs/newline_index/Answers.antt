use Rattle.std.proofs.Common.{rules, tests, ◌∙◌, sym}
use Rattle.std.proofs.lemmas.Iterator.{YieldsList-from_slice}
use Rattle.std.proofs.lemmas.Iterator.Search.{position_from_yields_List}
use lib.Dec.{eqb}
use Rattle.text.proofs.UntilLaws.{position_or_end}
use Rattle.line_reader.proofs.TakeLaws.{newline_position}
use Rattle.line_reader.proofs.newline_index.Goals as goal

pub returns : goal.returns
returns c =
    position_or_end _ _ _ _ (position_from_yields_List (λ b. eqb b 10) _ _ c.position.result c.position.ensures.ran (YieldsList-from_slice c.args.block.now cc) (λ x b q k. search (rules, tests))) c.unwrap_or.ensures
    ∙ sym (newline_position _)
