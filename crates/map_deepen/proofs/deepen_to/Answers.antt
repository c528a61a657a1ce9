use Rattle.map_function.proofs.NewBranches.{refusing_map}
use Rattle.pair_buffer.proofs.LengthLaws.{part_is}
use Rattle.map_deepen.proofs.DeepenBranches.{deepen_long}
use Rattle.map_deepen.proofs.deepen_to.Goals as goal

pub returns-then-path-gt255 : goal.returns-then-path-gt255
returns-then-path-gt255 c =
    let args = c.args in
    refusing_map _ _
    (deepen_long args.store.now args.places.now args.map args.path.now args.out.now args.slots.now c.if-path-gt255.true) _ _

pub slice_bounds-deepen_node-end : goal.slice_bounds-deepen_node-end
slice_bounds-deepen_node-end c = part_is _ _ c.strip_node-k.ensures.value _ c.strip_node-k.ensures.out_after

pub deepen_node-requires : goal.deepen_node-requires
deepen_node-requires c = c.strip_node-k.ensures.out_after
