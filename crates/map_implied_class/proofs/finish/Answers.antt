use Rattle.std.proofs.Common.{◌≡◌, arith, true, false, ◌&&◌}
use Rattle.std.proofs.lemmas.Grind.{common_steps}
use Rattle.pair_list.specs.Pair.{all_short}
use Rattle.pair_list.specs.Places.{pairs_in}
use Rattle.map_function.proofs.NewBranches.{refusing_map}
use Rattle.pair_list_write.proofs.PackedLaws.{holds_inside}
use Rattle.map_implied_class.proofs.ImpliedBranches.{finish_many, finish_room, finish_long, finish_fits, finish_made}
use mathlib.Core.Path.{ap}
use mathlib.Core.Bool.{not}
use Rattle.map_implied_class.proofs.finish.Goals as goal

pub compose_list-d-requires : goal.compose_list-d-requires
compose_list-d-requires c = c.requires.can_compose

pub returns-then-d-gt64 : goal.returns-then-d-gt64
returns-then-d-gt64 c =
    let args = c.args in
    refusing_map _ _
    (finish_many args.store.now args.places.now args.transfer args.mid.now args.mids.now args.class args.b.n args.b.at
    args.short args.time args.out.now args.slots.now _ _ _ _ c.compose_list-d.ensures c.if-d-gt64.true)
    _ _

pub returns-then-not-has_room_beside : goal.returns-then-not-has_room_beside
returns-then-not-has_room_beside c =
    let args = c.args in
    refusing_map _ _
    (finish_room args.store.now args.places.now args.transfer args.mid.now args.mids.now args.class args.b.n args.b.at
    args.short args.time args.out.now args.slots.now _ _ _ _ c.compose_list-d.ensures c.if-d-gt64.false _
    c.has_room_beside.ensures (ap not c.if-not-has_room_beside.true))
    _ _

pub finish_composed-f-requires : goal.finish_composed-f-requires
finish_composed-f-requires c =
    let args = c.args in record {
      n_bound = (c.if-d-gt64.false, holds_inside _ _ _ _ _ c.compose_list-d.ensures);
      slots_value = finish_fits args.store.now args.places.now args.transfer args.mid.now args.mids.now args.class args.b.n args.b.at
          args.short args.time args.out.now args.slots.now _ _ _ _ c.compose_list-d.ensures c.if-d-gt64.false _
          c.has_room_beside.ensures (ap not c.if-not-has_room_beside.false);
    }

pub returns : goal.returns
returns c =
    let args = c.args in
    let z : (args.short && all_short (pairs_in c.compose_list-d.new.bytes c.compose_list-d.new.own c.compose_list-d.result.n)) ≡ true = grind (arith, common_steps) in
    finish_made args.store.now args.places.now args.transfer args.mid.now args.mids.now args.class args.b.n args.b.at
    args.short args.time args.out.now args.slots.now _ _ _ _ c.compose_list-d.ensures c.if-d-gt64.false _
    c.has_room_beside.ensures (ap not c.if-not-has_room_beside.false) z _ _ _ (c.finish_composed-f.ensures.value, (c.finish_composed-f.ensures.out_after, c.finish_composed-f.ensures.slots_after))

pub returns-then-not-short : goal.returns-then-not-short
returns-then-not-short c =
    let args = c.args in
    let z : (args.short && all_short (pairs_in c.compose_list-d.new.bytes c.compose_list-d.new.own c.compose_list-d.result.n)) ≡ false = grind (arith, common_steps) in
    refusing_map _ _
    (finish_long args.store.now args.places.now args.transfer args.mid.now args.mids.now args.class args.b.n args.b.at
    args.short args.time args.out.now args.slots.now _ _ _ _ c.compose_list-d.ensures c.if-d-gt64.false _
    c.has_room_beside.ensures (ap not c.if-not-has_room_beside.false) z)
    _ _
