use Rattle.pair_list_write.proofs.RoomBranches.{left_fits}
use native.Mathlib.Omega.{arith}
use Rattle.close_leg.proofs.CloseBranches.{leg_few, validate_many, validate_start, validate_over, validate_short, validate_done}
use mathlib.Core.Path.{ap}
use mathlib.Core.Bool.{not}
use Rattle.close_leg.proofs.validate_close.Goals as goal

pub returns-then-not-has_leg_room : goal.returns-then-not-has_leg_room
returns-then-not-has_leg_room c = validate_many _ _ _ _ _ _ c.has_leg_room.ensures (ap not c.if-not-has_leg_room.true)

pub returns-then-at-gt32768 : goal.returns-then-at-gt32768
returns-then-at-gt32768 c = validate_start _ _ _ _ _ _ c.has_leg_room.ensures (ap not c.if-not-has_leg_room.false) c.if-at-gt32768.true

pub returns-in_default : goal.returns-in_default
returns-in_default c =
    validate_over _ _ _ _ _ _ c.has_leg_room.ensures (ap not c.if-not-has_leg_room.false) c.if-at-gt32768.false _
    c.remaining_room.ensures c.in_default.is

pub overflow_sub-total : goal.overflow_sub-total
overflow_sub-total c = omega (arith, left_fits _ _ _ c.remaining_room.ensures _ c.in-Some.is)

pub returns-then-store-total : goal.returns-then-store-total
returns-then-store-total c =
    validate_short _ _ _ _ _ _ c.has_leg_room.ensures (ap not c.if-not-has_leg_room.false) c.if-at-gt32768.false _
    c.remaining_room.ensures _ c.in-Some.is c.if-store-total.true

pub overflow_add-result : goal.overflow_add-result
overflow_add-result c =
    let args = c.args in
    omega (arith, leg_few args.v args.slots.now args.table.now _ c.has_leg_room.ensures (ap not c.if-not-has_leg_room.false))

pub returns : goal.returns
returns c =
    validate_done _ _ _ _ _ _ c.has_leg_room.ensures (ap not c.if-not-has_leg_room.false) c.if-at-gt32768.false _
    c.remaining_room.ensures _ c.in-Some.is c.if-store-total.false
