-- The image of the node is made in a buffer (`below_made`), and the part of the buffer that holds it is handed to `deepen_pairs`.
use mathlib.Core.Path.{refl}
use native.Mathlib.Omega.{arith}
use Rattle.map_deepen.proofs.DeepenBranches.{below_made, deepen_same}
use Rattle.map_function.proofs.NewBranches.{gives_map}
use Rattle.map_deepen.proofs.deepen_by.Goals as goal

pub slice_bounds-made-end : goal.slice_bounds-made-end
slice_bounds-made-end c =
    let args = c.args in
    omega (
      arith,
      (below_made args.store.now args.places.now args.map.count args.i c.requires.i_lt_count c.requires.valid_list.shorts args.node.now _ _ c.requires.node_len_bound
          c.key_at-new.ensures _ _ _ refl (c.replace_into-k.ensures.value, c.replace_into-k.ensures.out_after)).short,
    )

pub slice_bounds-deepen_pairs-end : goal.slice_bounds-deepen_pairs-end
slice_bounds-deepen_pairs-end c =
    let args = c.args in
    (below_made args.store.now args.places.now args.map.count args.i c.requires.i_lt_count c.requires.valid_list.shorts args.node.now _ _ c.requires.node_len_bound
    c.key_at-new.ensures _ _ _ refl (c.replace_into-k.ensures.value, c.replace_into-k.ensures.out_after)).part

pub deepen_pairs-requires : goal.deepen_pairs-requires
deepen_pairs-requires c =
    let args = c.args in
    record {
      valid_list = c.requires.valid_list;
      node_len_bound = c.requires.node_len_bound;
      below_len_bound = (below_made args.store.now args.places.now args.map.count args.i c.requires.i_lt_count c.requires.valid_list.shorts args.node.now _ _ c.requires.node_len_bound
          c.key_at-new.ensures _ _ _ refl (c.replace_into-k.ensures.value, c.replace_into-k.ensures.out_after)).part_short;
    }

pub returns : goal.returns
returns c =
    let args = c.args in
    gives_map _ _
    (deepen_same _ _ _
    (below_made args.store.now args.places.now args.map.count args.i c.requires.i_lt_count c.requires.valid_list.shorts args.node.now _ _ c.requires.node_len_bound
    c.key_at-new.ensures _ _ _ refl (c.replace_into-k.ensures.value, c.replace_into-k.ensures.out_after))
    args.store.now args.places.now args.map args.node.now args.i _ _ c.key_at-above.ensures c.key_at-new.ensures refl
    args.out.now args.slots.now)
    _ _ _ _ _ c.deepen_pairs.ensures
