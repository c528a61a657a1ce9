use Rattle.batch.proofs.BatchLaws.{room_spot, room_block, room_number, step_bytes, step_numbers, steps_end}
use Rattle.batch.specs.Batch.{path_buffers, reply_numbers}
use borrow.Author.Rules.{rules}
use native.Mathlib.Omega.{arith}
use mathlib.Core.Path.{refl}
use Rattle.text.proofs.Clauses.{out_after_replies_after}
use Rattle.batch.proofs.map_each.Goals as goal

pub loop-i-init : goal.loop-i-init
unfolding path_buffers reply_numbers
loop-i-init c = (refl, refl, refl, refl)

pub map_block-requires : goal.map_block-requires
map_block-requires c =
    let pre = c.requires in record {
      i_in_bounds = room_spot _ _ _ _ (pre) _ c.loop-i-test.true;
      i_in_bounds_2 = omega (arith, c.loop-i.invariant.2, room_block _ _ _ _ (pre) _ c.loop-i-test.true);
      i_in_bounds_3 = omega (arith, c.loop-i.invariant.3, room_number _ _ _ _ (pre) _ c.loop-i-test.true);
    }

pub loop-i-preserved : goal.loop-i-preserved
loop-i-preserved c = (
  (step_bytes _ _ _ _ _ _ _ _ _ _ _ (room_block _ _ _ _ c.requires _ c.loop-i-test.true) c.loop-i.invariant.0
      c.map_block.ensures.out_after),
  (step_numbers _ _ _ _ _ _ _ _ _ _ _ (room_number _ _ _ _ c.requires _ c.loop-i-test.true) c.loop-i.invariant.1
      c.map_block.ensures.replies_after),
  search rules,
  search rules,
)

pub returns : goal.returns
returns c = out_after_replies_after (steps_end _ _ _ _ _ _ _ c.loop-i-test.false c.loop-i.auto.i-end c.loop-i.invariant.0 c.loop-i.invariant.1)
