use mathlib.Core.Path.{refl}
use native.Mathlib.Omega.{arith}
use Rattle.map_spec.specs.New.{is_redundant}
use Rattle.map_canonical.proofs.LevelBranches.{levels_none, levels_on, levels_room, levels_end, top_room}
use borrow.Author.Rules.{rules}
use Rattle.map_canonical.proofs.canonicalize.Goals as goal

pub fill_element_counts-top-requires : goal.fill_element_counts-top-requires
fill_element_counts-top-requires c = omega (arith, c.requires.n_bound.0)

pub loop-e-init : goal.loop-e-init
loop-e-init c = (levels_none _ _ _ is_redundant _ _, c.fill_element_counts-top.ensures.holds_element_counts, c.fill_element_counts-top.ensures.result_value, c.requires.in_bounds, refl)

pub keep_level-w-requires : goal.keep_level-w-requires
keep_level-w-requires c =
    let l = c.loop-e in
    record {
      n_in_bounds = (c.requires.n_bound.1, omega (arith, c.requires.n_bound.0));
      holds_element_counts = l.invariant.1;
      n_in_bounds_2 = levels_room _ _ _ is_redundant _ _ _ _ _ l.invariant.0 c.requires.n_bound.0 l.invariant.3;
    }

pub loop-e-preserved : goal.loop-e-preserved
loop-e-preserved c =
    let l = c.loop-e in
    (levels_on _ _ _ is_redundant _ _ _ _ _ l.invariant.0 _ _ c.keep_level-w.ensures, l.invariant.1, l.invariant.2, search rules, search rules)

pub keep_level-requires : goal.keep_level-requires
keep_level-requires c =
    let l = c.loop-e in record {
      n_in_bounds = (c.requires.n_bound.1, omega (arith, c.requires.n_bound.0));
      holds_element_counts = l.invariant.1;
      n_in_bounds_2 = top_room _ _ _ is_redundant _ _ _ _ _ l.invariant.0 _ c.loop-e-test.false l.auto.e-end c.requires.n_bound.0 l.invariant.3;
    }

pub returns : goal.returns
returns c =
    levels_end _ _ _ is_redundant _ _ _ _ _ c.loop-e.invariant.0 _ c.loop-e.invariant.2 c.loop-e-test.false c.loop-e.auto.e-end _
    _ c.keep_level.ensures
