use mathlib.Core.Path.{refl}
use native.Mathlib.Omega.{arith}
use Rattle.map_spec.specs.New.{is_redundant}
use Rattle.map_canonical.proofs.KeepBranches.{counted_at}
use Rattle.map_canonical.proofs.LevelBranches.{level_none, level_held, level_room, level_count, level_on, level_end}
use borrow.Author.Rules.{rules}
use Rattle.map_canonical.proofs.keep_level.Goals as goal

pub loop-i-init : goal.loop-i-init
loop-i-init c = (level_none _ _ _ is_redundant _ _ _, omega arith, refl)

pub keep_pair-k-requires : goal.keep_pair-k-requires
keep_pair-k-requires c =
    let l = c.loop-i in
    omega (arith, level_held _ _ _ _ _ _ _ _ c.requires.n_in_bounds_2 c.loop-i-test.true l.invariant.1, l.invariant.2)

pub loop-i-preserved : goal.loop-i-preserved
loop-i-preserved c =
    let l = c.loop-i in
    let k = counted_at _ _ _ _ _ c.loop-i-test.true c.requires.holds_element_counts in
    let more = c.loop-i-test.true in (
      level_on _ _ _ is_redundant _ _ _ _ _ _ _ k l.invariant.0 (omega (arith, more, c.requires.n_in_bounds.0)) (level_room _ _ _ is_redundant _ _ _ _ _ k _ l.invariant.1 _ _ more c.requires.n_in_bounds_2 l.invariant.2) _ _ c.keep_pair-k.ensures.value c.keep_pair-k.ensures.kept_after,
      level_count _ _ _ is_redundant _ _ _ _ _ k _ l.invariant.1 _ c.keep_pair-k.ensures.value,
      search rules,
    )

pub returns : goal.returns
returns c = level_end _ _ _ is_redundant _ _ _ _ _ _ _ c.loop-i-test.false c.loop-i.auto.i-end c.loop-i.invariant.0
