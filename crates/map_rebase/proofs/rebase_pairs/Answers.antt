-- The buffers of each branch have room for the pairs: 766 bytes and four numbers for each.
use native.Mathlib.Omega.{arith}
use Rattle.map_rebase.proofs.rebase_pairs.Goals as goal

pub rebase_in-requires : goal.rebase_in-requires
rebase_in-requires c =
    record {
      valid_list = c.requires.valid_list;
      to_len_bound = c.requires.to_len_bound;
      scratch_room = record { room = omega (arith, c.if-map-le4.true); entries = omega (arith, c.if-map-le4.true) };
    }

pub rebase_in-requires-2 : goal.rebase_in-requires-2
rebase_in-requires-2 c =
    record {
      valid_list = c.requires.valid_list;
      to_len_bound = c.requires.to_len_bound;
      scratch_room = record { room = omega (arith, c.requires.valid_list.few); entries = omega (arith, c.requires.valid_list.few) };
    }
