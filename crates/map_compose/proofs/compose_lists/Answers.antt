-- The buffers of each branch have room for the pairs: 1534 bytes and four numbers for each.
use native.Mathlib.Omega.{arith}
use Rattle.map_compose.proofs.compose_lists.Goals as goal

pub compose_in-requires : goal.compose_in-requires
compose_in-requires c =
    record {
      valid_list = c.requires.valid_list;
      valid_list_2 = c.requires.valid_list_2;
      scratch_room = record { room = omega (arith, c.if-inner-outer-le4.true); entries = omega (arith, c.if-inner-outer-le4.true) };
    }

pub compose_in-requires-2 : goal.compose_in-requires-2
compose_in-requires-2 c =
    record {
      valid_list = c.requires.valid_list;
      valid_list_2 = c.requires.valid_list_2;
      scratch_room = record { room = omega (arith, c.requires.valid_list.few, c.requires.valid_list_2.few); entries = omega (arith, c.requires.valid_list.few, c.requires.valid_list_2.few) };
    }
