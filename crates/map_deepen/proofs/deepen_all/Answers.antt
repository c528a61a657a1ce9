use Rattle.map_spec.specs.Derive.{deepened_pair}
use Rattle.pair_list.specs.Pair.{Pair}
use native.Mathlib.Omega.{arith}
use mathlib.Core.Path.{refl}
use Rattle.map_deepen.proofs.DeepenBranches.{deepened_pair_lem}
use Rattle.pair_buffer.proofs.LengthLaws.{short_source, short_target}
use Rattle.pair_buffer.proofs.PairBufferLaws.{build_begin, build_next, build_end}
use borrow.Author.Rules.{rules}
use Rattle.map_deepen.proofs.deepen_all.Goals as goal

pub loop-i-init : goal.loop-i-init
loop-i-init c = (
  search rules,
  (let args = c.args in
      build_begin (λ (x : Pair). deepened_pair args.node.now args.above.now args.below.now x) args.store.now args.places.now _ _),
  refl,
  refl,
)

pub deepen_pair-at-requires : goal.deepen_pair-at-requires
deepen_pair-at-requires c =
    let args = c.args in
    record {
      s_len_bound = short_source args.store.now args.places.now args.n c.loop-i.i c.loop-i-test.true c.requires.n_value _
          c.key_at-s.ensures;
      t_len_bound = short_target args.store.now args.places.now args.n c.loop-i.i c.loop-i-test.true c.requires.n_value _
          c.key_at-t.ensures;
      node_len_bound = c.requires.node_len_bound;
      below_len_bound = c.requires.below_len_bound;
      at_in_bounds = omega (arith, c.requires.scratch_room.room, c.loop-i.invariant.0, c.loop-i.invariant.2, c.loop-i-test.true);
      n_in_bounds = omega (arith, c.requires.scratch_room.entries, c.loop-i.invariant.3, c.loop-i-test.true);
    }

pub loop-i-preserved : goal.loop-i-preserved
loop-i-preserved c = (
  (omega (arith, c.deepen_pair-at.ensures.upper_bound, c.loop-i.invariant.0)),
  (let args = c.args in
      build_next (λ (x : Pair). deepened_pair args.node.now args.above.now args.below.now x) args.store.now args.places.now
      c.loop-i.i c.loop-i.at _ _ c.loop-i.invariant.1 _
      (deepened_pair_lem args.store.now args.places.now c.loop-i.i args.node.now args.above.now args.below.now _ _
      c.key_at-s.ensures c.key_at-t.ensures)
      _ _ _ c.deepen_pair-at.ensures.appended_pair),
  search rules,
  search rules,
)

pub returns : goal.returns
returns c =
    let args = c.args in
    build_end (λ (x : Pair). deepened_pair args.node.now args.above.now args.below.now x) args.store.now args.places.now args.n
    c.loop-i.i _ _ _ c.loop-i-test.false c.loop-i.auto.i-end c.loop-i.invariant.1
