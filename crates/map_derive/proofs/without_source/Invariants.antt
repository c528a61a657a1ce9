-- The loop. What is kept is the first i pairs without those of the source.
use mathlib.Core.Path.{◌≡◌}
use lib.ListN.{length}
use Rattle.pair_list.specs.Places.{pairs_in}
use Rattle.map_spec.specs.Derive.{without_source}
use Rattle.map_derive.proofs.without_source.Given as goal

abbrev pub invariant-loop-i : goal.invariant-loop-i
invariant-loop-i l = (pairs_in l.store l.kept l.w ≡ without_source l.source (pairs_in l.store l.places l.i)) × (length l.kept ≡ length l.initial.kept)
