use Rattle.std.proofs.Common.{rules, tests, ◌∙◌, refl, arith}
use Rattle.std.proofs.lemmas.Iterator.{YieldsList-from_range}
use Rattle.std.proofs.lemmas.Iterator.Search.{all_from_yields_List}
use Rattle.pair_list.specs.Places.{is_short_at}
use Rattle.pair_list.proofs.PlaceBranches.{range_short}
use Rattle.pair_list.proofs.all_short.Goals as goal

pub returns : goal.returns
returns c =
    all_from_yields_List (is_short_at c.args.store.now c.args.places.now) _ _ c.all.result c.all.ensures.ran (YieldsList-from_range 0 c.args.n c.args.n refl (omega arith)) (λ x b q k. search (rules, tests))
    ∙ range_short _ _ _
