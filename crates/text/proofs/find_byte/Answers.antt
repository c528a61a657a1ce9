use Rattle.std.proofs.Common.{rules, tests}
use Rattle.std.proofs.lemmas.Iterator.{YieldsList-from_slice}
use Rattle.std.proofs.lemmas.Iterator.Search.{position_from_yields_List}
use lib.Dec.{eqb}
use Rattle.text.proofs.UntilLaws.{find_none, find_position}
use Rattle.text.proofs.find_byte.Goals as goal

pub returns-then-lacks_byte : goal.returns-then-lacks_byte
returns-then-lacks_byte c = find_none _ _ _ c.lacks_byte.ensures c.if-lacks_byte.true

pub returns : goal.returns
returns c =
    find_position _ _ _ _ (position_from_yields_List (λ x. eqb x c.args.b) _ _ c.position.result c.position.ensures.ran (YieldsList-from_slice c.args.text.now cc) (λ x b q k. search (rules, tests))) c.unwrap_or.ensures
