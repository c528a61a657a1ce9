use Rattle.map_spec.specs.Derive.{rebased_pair}
use Rattle.pair_list.specs.Pair.{Pair}
use native.Mathlib.Omega.{arith}
use mathlib.Core.Path.{refl}
use borrow.Author.Rules.{rules}
use Rattle.pair_buffer.proofs.LengthLaws.{short_source, short_target}
use Rattle.pair_buffer.proofs.PairBufferLaws.{build_begin, build_next, build_end}
use Rattle.map_rebase.proofs.RebaseBranches.{rebased_pair_lem}
use Rattle.map_rebase.proofs.rebase_all.Goals as goal

pub loop-i-init : goal.loop-i-init
loop-i-init c = (
  search rules,
  (let args = c.args in
      build_begin (λ (x : Pair). rebased_pair args.from.now args.to.now x) args.store.now args.places.now _ _),
  refl,
  refl,
)

pub rebase_pair-at-requires : goal.rebase_pair-at-requires
rebase_pair-at-requires c =
    let args = c.args in
    record {
      s_len_bound = short_source args.store.now args.places.now args.n c.loop-i.i c.loop-i-test.true c.requires.n_value _
          c.key_at-s.ensures;
      t_len_bound = short_target args.store.now args.places.now args.n c.loop-i.i c.loop-i-test.true c.requires.n_value _
          c.key_at-t.ensures;
      to_len_bound = c.requires.to_len_bound;
      at_in_bounds = omega (arith, c.requires.scratch_room.room, c.loop-i.invariant.0, c.loop-i.invariant.2, c.loop-i-test.true);
      n_in_bounds = omega (arith, c.requires.scratch_room.entries, c.loop-i.invariant.3, c.loop-i-test.true);
    }

pub loop-i-preserved : goal.loop-i-preserved
loop-i-preserved c = (
  (omega (arith, c.rebase_pair-at.ensures.upper_bound, c.loop-i.invariant.0)),
  (let args = c.args in
      build_next (λ (x : Pair). rebased_pair args.from.now args.to.now x) args.store.now args.places.now c.loop-i.i
      c.loop-i.at _ _ c.loop-i.invariant.1 _
      (rebased_pair_lem args.store.now args.places.now c.loop-i.i args.from.now args.to.now _ _ c.key_at-s.ensures
      c.key_at-t.ensures)
      _ _ _ c.rebase_pair-at.ensures.appended_pair),
  search rules,
  search rules,
)

pub returns : goal.returns
returns c =
    let args = c.args in
    build_end (λ (x : Pair). rebased_pair args.from.now args.to.now x) args.store.now args.places.now args.n c.loop-i.i _ _
    _ c.loop-i-test.false c.loop-i.auto.i-end c.loop-i.invariant.1
