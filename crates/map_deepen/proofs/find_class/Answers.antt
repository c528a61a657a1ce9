use mathlib.Core.Path.{ap}
use Rattle.text.specs.Text.{Text}
use Rattle.path_prefix.specs.Prefix.{has_prefix}
use Rattle.path_prefix.specs.Elements.{element_count}
use Rattle.pair_list.specs.LongestMatch.{longest_by}
use Rattle.pair_list.proofs.BestLaws.{search_none, search_on, search_end}
use Rattle.map_deepen.proofs.find_class.Goals as goal

pub loop-i-init : goal.loop-i-init
loop-i-init c = search_none _ _

pub loop-i-preserved : goal.loop-i-preserved
loop-i-preserved c =
    let e = c.key_at.ensures in
    search_on _ _ _ _ _ _ _ c.loop-i.invariant (ap (has_prefix _) e) (ap (λ (s : Text). element_count s) e) c.consider_class-f.ensures

pub returns : goal.returns
unfolding longest_by
returns c = search_end _ _ _ _ _ c.loop-i.invariant c.loop-i-test.false c.loop-i.auto.i-end
