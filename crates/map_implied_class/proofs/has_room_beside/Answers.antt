use Rattle.pair_list.specs.Places.{pairs_in}
use Rattle.pair_list.proofs.PlaceLaws.{pairs_in_length}
use Rattle.map_implied_class.proofs.ImpliedBranches.{place_slots, place_first, place_second, place_rest}
use Rattle.map_implied_class.proofs.has_room_beside.Goals as goal

pub returns-then-slots-n : goal.returns-then-slots-n
returns-then-slots-n c =
    let args = c.args in
    place_slots (pairs_in args.store.now args.places.now args.n) args.n args.b.n args.d.n args.b.at args.d.at
    args.room args.slots (pairs_in_length args.store.now args.places.now args.n) c.if-slots-n.true

pub returns-then-room-b : goal.returns-then-room-b
returns-then-room-b c =
    let args = c.args in
    place_first (pairs_in args.store.now args.places.now args.n) args.n args.b.n args.d.n args.b.at args.d.at
    args.room args.slots (pairs_in_length args.store.now args.places.now args.n) c.if-room-b.true

pub returns-then-left-d : goal.returns-then-left-d
returns-then-left-d c =
    let args = c.args in
    place_second (pairs_in args.store.now args.places.now args.n) args.n args.b.n args.d.n args.b.at args.d.at
    args.room args.slots (pairs_in_length args.store.now args.places.now args.n) c.if-room-b.false c.if-left-d.true

pub returns : goal.returns
returns c =
    let args = c.args in
    place_rest (pairs_in args.store.now args.places.now args.n) args.n args.b.n args.d.n args.b.at args.d.at args.room
    args.slots (pairs_in_length args.store.now args.places.now args.n) c.if-slots-n.false c.if-room-b.false c.if-left-d.false _
    c.list_fits.ensures
