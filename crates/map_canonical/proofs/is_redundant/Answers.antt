use Rattle.map_canonical.proofs.KeepBranches.{implied_inside, implied_join, implied_none, implied_mark}
use mathlib.Core.Path.{ap, ◌∙◌}
use mathlib.Core.Bool.{not}
use Rattle.map_canonical.proofs.is_redundant.Goals as goal

pub slice_bounds-is_join-count : goal.slice_bounds-is_join-count
slice_bounds-is_join-count c =
    implied_inside _ _ _ c.args.mark _ c.args.t.now c.best_prefix.result
    c.best_prefix.ensures _ c.in-Some.is _ c.key_at-old.ensures

pub slice_bounds-is_join-start : goal.slice_bounds-is_join-start
slice_bounds-is_join-start c =
    implied_inside _ _ _ c.args.mark _ c.args.t.now c.best_prefix.result
    c.best_prefix.ensures _ c.in-Some.is _ c.key_at-old.ensures

pub returns-in-Some : goal.returns-in-Some
returns-in-Some c =
    implied_join _ _ _ _ _ _ c.best_prefix.result c.best_prefix.ensures _ c.in-Some.is _ _
    c.key_at-old.ensures c.key_at-new.ensures _ c.is_join.ensures

pub returns-then-mark : goal.returns-then-mark
returns-then-mark c =
    implied_mark _ _ _ _ _ _ c.best_prefix.result c.best_prefix.ensures c.in_default.is (ap not c.if-mark.true) _
    c.is_equal.ensures

pub returns-else-mark : goal.returns-else-mark
returns-else-mark c = c.if-mark.false ∙ implied_none _ _ _ _ _ _ c.best_prefix.result c.best_prefix.ensures c.in_default.is (ap not c.if-mark.false)
