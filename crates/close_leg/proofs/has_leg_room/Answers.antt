use Rattle.close_leg.proofs.CloseBranches.{leg_many, leg_beyond, leg_short, leg_more}
use Rattle.close_leg.proofs.has_leg_room.Goals as goal

pub returns-then-count-ge16 : goal.returns-then-count-ge16
returns-then-count-ge16 c = leg_many c.args.v c.args.slots.now c.args.table.now c.if-count-ge16.true

pub returns-then-slots-count : goal.returns-then-slots-count
returns-then-slots-count c = leg_beyond c.args.v c.args.slots.now c.args.table.now c.if-count-ge16.false c.if-slots-count.true

pub returns-then-table-count : goal.returns-then-table-count
returns-then-table-count c =
    let args = c.args in
    leg_short args.v args.slots.now args.table.now c.if-count-ge16.false c.if-slots-count.false c.if-table-count.true

pub returns : goal.returns
returns c =
    let args = c.args in
    leg_more args.v args.slots.now args.table.now c.if-count-ge16.false c.if-slots-count.false c.if-table-count.false
