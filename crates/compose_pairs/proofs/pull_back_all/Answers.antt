use mathlib.Core.Path.{refl}
use native.Mathlib.Omega.{arith}
use Rattle.pair_list.specs.Places.{pairs_in}
use Rattle.map_spec.specs.Map.{lent_map}
use Rattle.pair_list_write.proofs.PackedLaws.{packed_stored}
use Rattle.compose_pairs.proofs.ComposeBranches.{pull_begin, pull_room, pull_slot, pull_number, pull_bound, pull_next, pull_end}
use borrow.Author.Rules.{rules}
use Rattle.compose_pairs.proofs.pull_back_all.Goals as goal

pub loop-i-init : goal.loop-i-init
loop-i-init c = (
  omega arith,
  omega (arith, c.requires.at_bound),
  (let args = c.args in
      pull_begin (lent_map args.istore.now args.iplaces.now args.inner args.mark)
      (pairs_in args.bytes.now args.slots.now args.inner) args.store.now args.places.now _ _ _ _ _ _ c.requires.packed),
  refl,
  refl,
)

pub pull_back_pair-b-requires : goal.pull_back_pair-b-requires
pull_back_pair-b-requires c =
    let args = c.args in
    let its-lentMap = lent_map args.istore.now args.iplaces.now args.inner args.mark in
    let its-pairsIn = pairs_in args.bytes.now args.slots.now args.inner in record {
      packed = packed_stored _ _ _ _ _ _ _ c.loop-i.invariant.2;
      t_in_bounds = pull_room its-lentMap c.requires.can_compose.inner_ends its-pairsIn args.store.now args.places.now args.count c.requires.can_compose.outer_ends args.inner c.loop-i.i
          c.loop-i-test.true c.loop-i.b.n c.loop-i.b.at c.loop-i.invariant.0 c.loop-i.invariant.1 _ _
          c.key_at-s.ensures c.key_at-t.ensures _ (omega (arith, c.requires.can_compose.scratch.room, c.loop-i.invariant.3));
      n_in_bounds = pull_slot its-lentMap c.requires.can_compose.inner_ends its-pairsIn args.store.now args.places.now args.count c.requires.can_compose.outer_ends args.inner c.loop-i.i
          c.loop-i-test.true c.loop-i.b.n c.loop-i.b.at c.loop-i.invariant.0 c.loop-i.invariant.1 _ _
          c.key_at-s.ensures c.key_at-t.ensures _ (omega (arith, c.requires.can_compose.scratch.entries, c.loop-i.invariant.4));
    }

pub loop-i-preserved : goal.loop-i-preserved
loop-i-preserved c = (
  (let args = c.args in
      pull_number (lent_map args.istore.now args.iplaces.now args.inner args.mark) c.requires.can_compose.inner_ends
      (pairs_in args.bytes.now args.slots.now args.inner) args.store.now args.places.now args.count c.requires.can_compose.outer_ends
      args.inner c.loop-i.i c.loop-i-test.true c.loop-i.b.n c.loop-i.b.at c.loop-i.invariant.0
      c.loop-i.invariant.1 _ _ c.key_at-s.ensures c.key_at-t.ensures _ _ _ _ c.loop-i.invariant.2 _ _ _ _
      c.pull_back_pair-b.ensures),
  (let args = c.args in
      pull_bound (lent_map args.istore.now args.iplaces.now args.inner args.mark) c.requires.can_compose.inner_ends
      (pairs_in args.bytes.now args.slots.now args.inner) args.store.now args.places.now args.count c.requires.can_compose.outer_ends
      args.inner c.loop-i.i c.loop-i-test.true c.loop-i.b.n c.loop-i.b.at c.loop-i.invariant.0
      c.loop-i.invariant.1 _ _ c.key_at-s.ensures c.key_at-t.ensures _ _ _ _ c.loop-i.invariant.2 _ _ _ _
      c.pull_back_pair-b.ensures),
  (let args = c.args in
      pull_next (lent_map args.istore.now args.iplaces.now args.inner args.mark) c.requires.can_compose.inner_ends
      (pairs_in args.bytes.now args.slots.now args.inner) args.store.now args.places.now args.count c.requires.can_compose.outer_ends
      args.inner c.loop-i.i c.loop-i-test.true c.loop-i.b.n c.loop-i.b.at c.loop-i.invariant.0
      c.loop-i.invariant.1 _ _ c.key_at-s.ensures c.key_at-t.ensures _ _ _ _ c.loop-i.invariant.2 _ _ _ _
      c.pull_back_pair-b.ensures),
  search rules,
  search rules,
)

pub returns : goal.returns
returns c =
    let args = c.args in
    pull_end (lent_map args.istore.now args.iplaces.now args.inner args.mark)
    (pairs_in args.bytes.now args.slots.now args.inner) args.store.now args.places.now _ _ _ _ _ _ _ _ c.loop-i-test.false
    c.loop-i.auto.i-end c.loop-i.invariant.2
