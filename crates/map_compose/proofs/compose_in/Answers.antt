-- The composed list lies in the buffers (`into_holds`), since they are large enough for two validated maps, and its ends are legal.
use Rattle.std.proofs.Common.{rules}
use Rattle.map_function.specs.MapFunction.{map_of}
use Rattle.compose_pairs.proofs.PackLaws.{into_holds}
use Rattle.map_compose.proofs.CallBranches.{compose_fits_lem, built_map}
use Rattle.map_function.proofs.NewBranches.{gives_map}
use Rattle.map_compose.proofs.compose_in.Goals as goal

pub returns : goal.returns
returns c =
    let args = c.args in
    let outer = map_of args.store.now args.places.now args.outer in
    let inner = map_of args.istore.now args.iplaces.now args.inner in
    gives_map _ _
    (built_map outer inner c.requires.valid_list.ends c.requires.valid_list_2.ends args.time args.out.now args.slots.now _ _ _ _
    (into_holds outer inner args.bytes.now args.own.now
    (compose_fits_lem args.store.now args.places.now args.outer args.istore.now args.iplaces.now args.inner args.bytes.now
    args.own.now c.requires.valid_list c.requires.valid_list_2 c.requires.scratch_room)
    _ _ _ (c.compose_into-b.ensures.value, (c.compose_into-b.ensures.bytes_after, c.compose_into-b.ensures.slots_after)))
    _ (search rules))
    _ _ _ _ _ c.from_ends_given.ensures
