use native.Mathlib.Omega.{arith}
use Rattle.map_function.specs.MapFunction.{map_of}
use Rattle.compose_pairs.proofs.ComposeFitsBranches.{enough_yes}
use Rattle.compose_pairs.proofs.PackLaws.{into_holds}
use Rattle.map_implied_class.proofs.ImpliedBranches.{build_other, build_both}
use Rattle.map_implied_class.proofs.compose_list.Goals as goal

pub returns-then-path_is_identity : goal.returns-then-path_is_identity
returns-then-path_is_identity c =
    let args = c.args in
    let pre = c.requires in
    build_other args.store.now args.places.now args.outer args.istore.now args.iplaces.now args.inner _ _ _ _ _
    c.path_is_identity.ensures c.if-path_is_identity.true
    (into_holds (map_of args.istore.now args.iplaces.now args.inner) (map_of args.store.now args.places.now args.outer)
    args.bytes.now args.own.now
    (enough_yes args.istore.now args.iplaces.now args.inner.count args.store.now args.places.now args.outer.count
    args.bytes.now args.own.now
    record {
      outer_ends = pre.inner_ends;
      inner_ends = pre.outer_ends;
      scratch = record { room = omega (arith, pre.scratch.room); entries = omega (arith, pre.scratch.entries) };
    })
    _ _ _ (c.compose_into.ensures.value, (c.compose_into.ensures.bytes_after, c.compose_into.ensures.slots_after)))

pub returns : goal.returns
returns c =
    let args = c.args in
    let pre = c.requires in
    build_both args.store.now args.places.now args.outer args.istore.now args.iplaces.now args.inner _ _ _ _ _
    c.path_is_identity.ensures c.if-path_is_identity.false
    (into_holds (map_of args.store.now args.places.now args.outer) (map_of args.istore.now args.iplaces.now args.inner)
    args.bytes.now args.own.now
    (enough_yes args.store.now args.places.now args.outer.count args.istore.now args.iplaces.now args.inner.count
    args.bytes.now args.own.now pre)
    _ _ _ (c.compose_into-2.ensures.value, (c.compose_into-2.ensures.bytes_after, c.compose_into-2.ensures.slots_after)))
