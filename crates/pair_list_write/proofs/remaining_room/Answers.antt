use Prim.Native.Nat.{◌-◌, ◌≤◌}
use native.Mathlib.Omega.{arith}
use lib.ListN.{length}
use Rattle.pair_list_write.proofs.RoomBranches.{room_begin, room_source, room_on, room_end}
use Rattle.pair_list_write.proofs.remaining_room.Goals as goal

pub loop-i-init : goal.loop-i-init
loop-i-init c = room_begin _ _ _

pub returns-in_err-left : goal.returns-in_err-left
returns-in_err-left c =
    rw c.from_residual.ensures
    (room_source _ _ _ _ _ _ c.loop-i-test.true c.loop-i.invariant _ c.key_at-s.ensures (omega (arith, c.in_err-left.ensures)))

pub loop-i-preserved : goal.loop-i-preserved
loop-i-preserved c =
    let s : length c.key_at-s.result.now ≤ c.loop-i.left = c.in_ok-left.ensures.0 in
    let t : length c.key_at-t.result.now ≤ c.loop-i.left - length c.key_at-s.result.now = omega (arith, c.in_ok-left.ensures, c.in_ok-left-2.ensures) in
    omega (
      arith,
      c.in_ok-left.ensures,
      c.in_ok-left-2.ensures,
      room_on _ _ _ _ _ _ c.loop-i-test.true c.loop-i.invariant _ c.key_at-s.ensures _ c.key_at-t.ensures s t,
    )

pub returns : goal.returns
returns c = room_end _ _ _ _ _ _ c.loop-i-test.false c.loop-i.auto.i-end c.loop-i.invariant
