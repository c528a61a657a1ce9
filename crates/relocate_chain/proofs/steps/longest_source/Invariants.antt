-- The loop. The best so far is the longest source among the first i pairs.
use Rattle.relocate_chain.proofs.SearchBranches.{source_below}
use mathlib.Core.Path.{◌≡◌}
use Rattle.pair_list.specs.Places.{pairs_in}
use Rattle.relocate_chain.specs.Chain.{replacement}
use Rattle.relocate_chain.specs.ChainStep.{skip_text, source_kept}
use Rattle.relocate_chain.proofs.steps.longest_source.Given as goal

abbrev pub invariant-loop-i : goal.invariant-loop-i
invariant-loop-i l = source_kept l.f ≡ source_below (replacement l.alters (skip_text l.skip) l.path) (pairs_in l.store l.places l.n) l.i
