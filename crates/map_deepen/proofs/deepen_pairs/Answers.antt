-- The buffers of each branch have room for the pairs: 766 bytes and four numbers for each.
use native.Mathlib.Omega.{arith}
use Rattle.map_deepen.proofs.deepen_pairs.Goals as goal

pub deepen_in-requires : goal.deepen_in-requires
deepen_in-requires c =
    record {
      valid_list = c.requires.valid_list;
      node_len_bound = c.requires.node_len_bound;
      below_len_bound = c.requires.below_len_bound;
      scratch_room = record { room = omega (arith, c.if-map-le4.true); entries = omega (arith, c.if-map-le4.true) };
    }

pub deepen_in-requires-2 : goal.deepen_in-requires-2
deepen_in-requires-2 c =
    record {
      valid_list = c.requires.valid_list;
      node_len_bound = c.requires.node_len_bound;
      below_len_bound = c.requires.below_len_bound;
      scratch_room = record { room = omega (arith, c.requires.valid_list.few); entries = omega (arith, c.requires.valid_list.few) };
    }
