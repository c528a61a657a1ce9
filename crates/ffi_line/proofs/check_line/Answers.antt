-- The bytes decoded from the line encode its frame; the branches are those of `line_check`.
use mathlib.Core.Path.{refl}
use native.Mathlib.Omega.{arith}
use Rattle.text.proofs.WriteLaws.{part_size}
use Rattle.frame_decode.proofs.HeaderLaws.{kind_few}
use Rattle.frame_decode.proofs.LineLaws.{line_within}
use Rattle.ffi_line.specs.LineCall.{lent_memory}
use Rattle.ffi_line.proofs.CallBranches.{roomy_kept, whole_parsed, check_bad, check_full, check_refused, check_open, counted_use}
use mathlib.Core.Path.{ap}
use mathlib.Core.Bool.{not}
use Rattle.ffi_line.proofs.check_line.Goals as goal

pub slice_bounds-frame-end : goal.slice_bounds-frame-end
slice_bounds-frame-end c = line_within _ _ _ _ _ refl (c.decode_line-n.ensures.value, c.decode_line-n.ensures.frame_after)

pub slice_bounds-decode_frame-end : goal.slice_bounds-decode_frame-end
slice_bounds-decode_frame-end c = part_size _ _ (line_within _ _ _ _ _ refl (c.decode_line-n.ensures.value, c.decode_line-n.ensures.frame_after))

pub returns-in_default : goal.returns-in_default
returns-in_default c =
    let args = c.args in
    let m = lent_memory args.kept.now args.bytes.now args.places.now args.store.now args.slots.now args.table.now in
    check_bad _ _ c.decode_frame.ensures _ (whole_parsed args.line.now _ _ _ refl (c.decode_line-n.ensures.value, c.decode_line-n.ensures.frame_after)) args.kept.now m args.room c.in_default.is

pub returns-then-not-has_line_room : goal.returns-then-not-has_line_room
returns-then-not-has_line_room c =
    let args = c.args in
    let m = lent_memory args.kept.now args.bytes.now args.places.now args.store.now args.slots.now args.table.now in
    check_full _ _ c.decode_frame.ensures _ (whole_parsed args.line.now _ _ _ refl (c.decode_line-n.ensures.value, c.decode_line-n.ensures.frame_after)) args.kept.now m args.room _ _ c.in-Some.is _ c.has_line_room.ensures (ap not c.if-not-has_line_room.true)

pub counters_of-k-requires : goal.counters_of-k-requires
counters_of-k-requires c = roomy_kept c.args.kept.now c.args.room _ c.has_line_room.ensures (ap not c.if-not-has_line_room.false)

pub slice_bounds-frame-end-2 : goal.slice_bounds-frame-end-2
slice_bounds-frame-end-2 c = line_within _ _ _ _ _ refl (c.decode_line-n.ensures.value, c.decode_line-n.ensures.frame_after)

pub slice_bounds-validate_use-end : goal.slice_bounds-validate_use-end
slice_bounds-validate_use-end c = part_size _ _ (line_within _ _ _ _ _ refl (c.decode_line-n.ensures.value, c.decode_line-n.ensures.frame_after))

pub overflow_add-result : goal.overflow_add-result
overflow_add-result c = omega (arith, kind_few _ _ _ _ c.decode_frame.ensures c.in-Some.is)

pub returns-in-Err : goal.returns-in-Err
returns-in-Err c =
    let args = c.args in
    let m = lent_memory args.kept.now args.bytes.now args.places.now args.store.now args.slots.now args.table.now in
    let used =
    counted_use args.kept.now args.bytes.now args.places.now args.store.now args.slots.now args.table.now _
    c.counters_of-k.ensures _ _ c.validate_use-q.ensures in
    check_refused _ _ c.decode_frame.ensures _ (whole_parsed args.line.now _ _ _ refl (c.decode_line-n.ensures.value, c.decode_line-n.ensures.frame_after)) args.kept.now m args.room _ _ c.in-Some.is _ c.has_line_room.ensures (ap not c.if-not-has_line_room.false) _ used _ c.in-Err.is
    _ c.number_byte.ensures

pub returns : goal.returns
returns c =
    let args = c.args in
    let m = lent_memory args.kept.now args.bytes.now args.places.now args.store.now args.slots.now args.table.now in
    let used =
    counted_use args.kept.now args.bytes.now args.places.now args.store.now args.slots.now args.table.now _
    c.counters_of-k.ensures _ _ c.validate_use-q.ensures in
    check_open _ _ c.decode_frame.ensures _ (whole_parsed args.line.now _ _ _ refl (c.decode_line-n.ensures.value, c.decode_line-n.ensures.frame_after)) args.kept.now m args.room _ _ c.in-Some.is _ c.has_line_room.ensures (ap not c.if-not-has_line_room.false) _ used
    c.in_default-q.is
