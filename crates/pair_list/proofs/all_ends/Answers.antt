use Rattle.std.proofs.Common.{rules, tests, ◌∙◌, refl, arith}
use Rattle.std.proofs.lemmas.Iterator.{YieldsList-from_range}
use Rattle.std.proofs.lemmas.Iterator.Search.{all_from_yields_List}
use Rattle.path_grammar.specs.Legal.{is_end}
use Rattle.text_list.specs.Places.{text_at}
use Rattle.pair_list.proofs.PlaceBranches.{range_all}
use Rattle.pair_list.proofs.all_ends.Goals as goal

pub returns : goal.returns
returns c =
    all_from_yields_List (λ j. is_end (text_at c.args.store.now c.args.places.now j)) _ _ c.all.result c.all.ensures.ran (YieldsList-from_range 0 c.args.n c.args.n refl (omega arith)) (λ x b q k. search (rules, tests))
    ∙ range_all _ _ is_end _
