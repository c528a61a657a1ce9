use lib.Ieee.{of_bits}
use native.Mathlib.Omega.{arith}
use Rattle.map_function.proofs.NewBranches.{refusing_map, gives_map}
use Rattle.map_implied_class.specs.Implied.{implied_time}
use Rattle.pair_list_write.proofs.PackedLaws.{holds_inside}
use Rattle.map_implied_class.proofs.ImpliedBranches.{back_composes, implied_many, class_room, part_composes, implied_rest, time_twice}
use Rattle.map_implied_class.proofs.implied_in.Goals as goal

pub invert-back-requires : goal.invert-back-requires
invert-back-requires c =
    record {
      n_bound = (c.requires.valid_list.few, omega (arith, c.requires.valid_list.held));
      n_value = c.requires.valid_list.shorts;
      in_bounds = omega arith;
      in_bounds_2 = omega arith;
    }

pub compose_list-b-requires : goal.compose_list-b-requires
compose_list-b-requires c =
    let args = c.args in
    back_composes args.store.now args.places.now args.transfer args.cstore.now args.cplaces.now args.class c.requires.valid_list c.requires.valid_list_2 _ _
    c.invert-back.result c.invert-back.ensures _ _ (omega arith) (omega arith)

pub returns-then-b-gt64 : goal.returns-then-b-gt64
returns-then-b-gt64 c =
    let args = c.args in
    refusing_map _ _
    (implied_many args.store.now args.places.now args.transfer args.cstore.now args.cplaces.now args.class c.requires.valid_list
    c.requires.valid_list_2 _ _ c.invert-back.result c.invert-back.ensures _ _ _ _ c.compose_list-b.ensures
    (implied_time args.transfer args.class) args.out.now args.slots.now c.if-b-gt64.true)
    _ _

pub finish_composed-part-requires : goal.finish_composed-part-requires
finish_composed-part-requires c =
    let args = c.args in
    record {
      n_bound = (c.if-b-gt64.false, holds_inside _ _ _ _ _ c.compose_list-b.ensures);
      slots_value = class_room args.store.now args.places.now args.transfer args.cstore.now args.cplaces.now args.class c.requires.valid_list
          c.requires.valid_list_2 _ _ c.invert-back.result c.invert-back.ensures _ _ _ _ c.compose_list-b.ensures
          c.if-b-gt64.false (omega arith) (omega arith);
    }

pub finish-requires : goal.finish-requires
finish-requires c =
    let args = c.args in
    record {
      count_bound = (c.requires.valid_list.few, c.if-b-gt64.false);
      can_compose = part_composes args.store.now args.places.now args.transfer args.cstore.now args.cplaces.now args.class c.requires.valid_list c.requires.valid_list_2 _ _
          c.invert-back.result c.invert-back.ensures _ _ _ _ c.compose_list-b.ensures c.if-b-gt64.false _ _ _
          (c.finish_composed-part.ensures.value, (c.finish_composed-part.ensures.out_after, c.finish_composed-part.ensures.slots_after)) _ _ (omega arith) (omega arith);
    }

pub returns : goal.returns
unfolding of_bits
returns c =
    let args = c.args in
    gives_map _ _
    (implied_rest args.store.now args.places.now args.transfer args.cstore.now args.cplaces.now args.class c.requires.valid_list
    c.requires.valid_list_2 _ _ c.invert-back.result c.invert-back.ensures _ _ _ _ c.compose_list-b.ensures
    c.if-b-gt64.false _ _ _ (c.finish_composed-part.ensures.value, (c.finish_composed-part.ensures.out_after, c.finish_composed-part.ensures.slots_after)) _
    c.all_short-short.ensures _
    (time_twice _ _ _ _ c.composed_time-time.ensures c.composed_time-whole.ensures) args.out.now args.slots.now)
    _ _ _ _ _ c.finish.ensures
