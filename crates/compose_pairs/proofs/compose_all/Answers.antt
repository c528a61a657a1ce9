use mathlib.Core.Path.{refl}
use native.Mathlib.Omega.{arith}
use Rattle.map_spec.specs.Map.{lent_map}
use Rattle.compose_pairs.proofs.ComposeBranches.{compose_begin, compose_room, compose_bound, compose_next, compose_end}
use borrow.Author.Rules.{rules}
use Rattle.compose_pairs.proofs.compose_all.Goals as goal

-- the clauses by their names
by_clause_packed_list : {A B : Type 0} → A × B → record { packed_list : A; upper_bound : B }
by_clause_packed_list t = record { packed_list = t.0; upper_bound = t.1 }

pub loop-i-init : goal.loop-i-init
loop-i-init c = (
  search rules,
  (let args = c.args in
      compose_begin (lent_map args.store.now args.places.now args.count args.mark) args.istore.now args.iplaces.now _ _),
  refl,
  refl,
)

pub compose_pair-at-requires : goal.compose_pair-at-requires
compose_pair-at-requires c =
    let args = c.args in
    let pre = c.requires in record {
      t_in_bounds = compose_room (lent_map args.store.now args.places.now args.count args.mark) pre.outer_ends args.istore.now args.iplaces.now
          args.inner pre.inner_ends c.loop-i.i c.loop-i.at c.loop-i-test.true c.loop-i.invariant.0 _ _
          c.key_at-s.ensures c.key_at-t.ensures _ (omega (arith, pre.scratch.room, c.loop-i.invariant.2));
      n_in_bounds = omega (arith, pre.scratch.entries, c.loop-i.invariant.3, c.loop-i-test.true);
    }

pub loop-i-preserved : goal.loop-i-preserved
loop-i-preserved c = (
  (let args = c.args in
      compose_bound (lent_map args.store.now args.places.now args.count args.mark) c.requires.outer_ends args.istore.now
      args.iplaces.now args.inner c.requires.inner_ends c.loop-i.i c.loop-i.at c.loop-i-test.true
      c.loop-i.invariant.0 _ _ c.key_at-s.ensures c.key_at-t.ensures _ c.compose_pair-at.ensures.end),
  (let args = c.args in
      compose_next (lent_map args.store.now args.places.now args.count args.mark) c.requires.outer_ends args.istore.now
      args.iplaces.now args.inner c.requires.inner_ends c.loop-i.i c.loop-i.at c.loop-i-test.true
      c.loop-i.invariant.0 _ _ c.key_at-s.ensures c.key_at-t.ensures _ _ _ _ _ _ _ c.loop-i.invariant.1
      c.compose_pair-at.ensures),
  search rules,
  search rules,
)

pub returns : goal.returns
returns c =
    let args = c.args in
    by_clause_packed_list (compose_end (lent_map args.store.now args.places.now args.count args.mark) args.istore.now args.iplaces.now _ _ _ _ _ _ _
    c.loop-i-test.false c.loop-i.auto.i-end c.loop-i.invariant.1 c.loop-i.invariant.0)
