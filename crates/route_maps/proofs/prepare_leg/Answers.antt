-- The map is written to the leg's block, a part of the buffer, and its three numbers to the table.
use native.Mathlib.Omega.{arith}
use Rattle.route_maps.proofs.PrepareBranches.{leg_placed, part_room, leg_known}
use Rattle.route_maps.proofs.prepare_leg.Goals as goal

pub overflow_mul-k : goal.overflow_mul-k
overflow_mul-k c = omega (arith, c.requires.k_bound)

pub returns : goal.returns
returns c =
    let args = c.args in
    let k = c.kind_at-kind.ensures in
    let z = c.size_at.ensures in
    let f = c.leg_places-part.ensures in
    record {
      made_after = leg_placed _ args.places.now args.legs.now _ _ _ _ k z f _ c.requires.k_bound c.requires.made_len.0 _ c.prepare_pairs-w.ensures.block_after
          c.prepare_pairs-w.auto.block;
      table_after = leg_known _ args.places.now args.legs.now _ _ _ _ k z f _ c.requires.k_bound c.requires.made_len.1 _ c.map_kind.ensures _ _
          (part_room _ _ c.requires.k_bound c.requires.made_len.0) c.prepare_pairs-w.ensures.value _ c.write_leg.ensures;
    }
