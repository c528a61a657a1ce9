use Rattle.relocate_chain.proofs.SearchBranches.{source_below, source_on}
use Rattle.pair_list.proofs.BestLaws.{search_none, search_end}
use Rattle.relocate_chain.specs.Chain.{longest_source}
use Rattle.relocate_chain.proofs.steps.longest_source.Goals as goal

pub loop-i-init : goal.loop-i-init
unfolding source_below
loop-i-init c = search_none _ _

pub loop-i-preserved : goal.loop-i-preserved
loop-i-preserved c =
    source_on _ _ _ _ _ _ _ _ _ _ c.loop-i.invariant c.loop-i-test.true c.key_at-old.ensures c.key_at-new.ensures
    c.is_candidate.ensures c.consider_source-f.ensures

pub returns : goal.returns
unfolding source_below longest_source
returns c = search_end _ _ _ _ _ c.loop-i.invariant c.loop-i-test.false c.loop-i.auto.i-end
