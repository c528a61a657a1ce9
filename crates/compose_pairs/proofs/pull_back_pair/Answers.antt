use mathlib.Core.Path.{refl}
use mathlib.Core.Bool.{true}
use Rattle.pair_list.specs.Places.{pairs_in}
use Rattle.map_spec.specs.Map.{lent_map}
use Rattle.map_apply.proofs.MapBranches.{map_inside}
use Rattle.compose_pairs.specs.ComposePairs.{map_plainly}
use Rattle.compose_pairs.proofs.PlainMappingBranches.{map_none, home_join}
use Rattle.compose_pairs.proofs.PullBackBranches.{pull_unmarked, pull_marked, pull_none, pull_fits, pull_some}
use mathlib.Core.Path.{ap}
use mathlib.Core.Bool.{not}
use Rattle.compose_pairs.proofs.pull_back_pair.Goals as goal

pub returns-then-not-mark : goal.returns-then-not-mark
returns-then-not-mark c =
    let args = c.args in
    let its-mapPlainly = map_plainly true (lent_map args.store.now args.places.now args.count args.mark) args.s.now in
    pull_none (pairs_in args.bytes.now args.slots.now args.b.n) args.t.now its-mapPlainly args.b.n args.b.at args.bytes.now
    args.slots.now
    (pull_unmarked args.s.now its-mapPlainly args.mark
    (map_none args.store.now args.places.now args.count args.mark args.s.now true c.best_prefix.result
    c.best_prefix.ensures c.in_default.is)
    (ap not c.if-not-mark.true))
    c.requires.packed

pub add_joined-requires : goal.add_joined-requires
add_joined-requires c =
    let args = c.args in
    let its-mapPlainly = map_plainly true (lent_map args.store.now args.places.now args.count args.mark) args.s.now in record {
      packed = c.requires.packed;
      t_in_bounds = pull_fits (pairs_in args.bytes.now args.slots.now args.b.n) args.t.now its-mapPlainly args.b.n args.b.at
          args.bytes.now args.slots.now _
          (pull_marked args.s.now its-mapPlainly args.mark
          (map_none args.store.now args.places.now args.count args.mark args.s.now true c.best_prefix.result
          c.best_prefix.ensures c.in_default.is)
          (ap not c.if-not-mark.false))
          c.requires.t_in_bounds;
      n_in_bounds = c.requires.n_in_bounds;
    }

pub returns-in_default : goal.returns-in_default
returns-in_default c =
    let args = c.args in
    let its-mapPlainly = map_plainly true (lent_map args.store.now args.places.now args.count args.mark) args.s.now in
    pull_some (pairs_in args.bytes.now args.slots.now args.b.n) args.t.now its-mapPlainly args.b.n args.b.at args.bytes.now
    args.slots.now _
    (pull_marked args.s.now its-mapPlainly args.mark
    (map_none args.store.now args.places.now args.count args.mark args.s.now true c.best_prefix.result
    c.best_prefix.ensures c.in_default.is)
    (ap not c.if-not-mark.false))
    _ _ _ _ c.add_joined.ensures

pub slice_bounds-add_joined-count : goal.slice_bounds-add_joined-count
slice_bounds-add_joined-count c =
    let args = c.args in
    map_inside args.store.now args.places.now args.count args.mark args.s.now true c.best_prefix.result
    c.best_prefix.ensures _ c.in-Some.is _ c.key_at-old.ensures

pub slice_bounds-add_joined-start : goal.slice_bounds-add_joined-start
slice_bounds-add_joined-start c =
    let args = c.args in
    map_inside args.store.now args.places.now args.count args.mark args.s.now true c.best_prefix.result
    c.best_prefix.ensures _ c.in-Some.is _ c.key_at-old.ensures

pub add_joined-requires-2 : goal.add_joined-requires-2
add_joined-requires-2 c =
    let args = c.args in
    record {
      packed = c.requires.packed;
      t_in_bounds = pull_fits (pairs_in args.bytes.now args.slots.now args.b.n) args.t.now
          (map_plainly true (lent_map args.store.now args.places.now args.count args.mark) args.s.now) args.b.n args.b.at
          args.bytes.now args.slots.now _
          (home_join args.store.now args.places.now args.count args.mark args.s.now true c.best_prefix.result
          c.best_prefix.ensures _ c.in-Some.is refl _ _ c.key_at-old.ensures c.key_at-new.ensures)
          c.requires.t_in_bounds;
      n_in_bounds = c.requires.n_in_bounds;
    }

pub returns : goal.returns
returns c =
    let args = c.args in
    pull_some (pairs_in args.bytes.now args.slots.now args.b.n) args.t.now
    (map_plainly true (lent_map args.store.now args.places.now args.count args.mark) args.s.now) args.b.n args.b.at
    args.bytes.now args.slots.now _
    (home_join args.store.now args.places.now args.count args.mark args.s.now true c.best_prefix.result
    c.best_prefix.ensures _ c.in-Some.is refl _ _ c.key_at-old.ensures c.key_at-new.ensures)
    _ _ _ _ c.add_joined-2.ensures
