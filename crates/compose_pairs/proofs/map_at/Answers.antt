use Rattle.std.specs.Prelude.{Some}
use Rattle.std.proofs.Common.{rules}
use mathlib.Core.Path.{refl, ap}
use mathlib.Core.Bool.{false}
use Rattle.compose_pairs.proofs.PlainMappingBranches.{map_none, map_block, map_join, room_of, answer_of}
use Rattle.map_apply.proofs.MapBranches.{map_inside}
use Rattle.text.proofs.Clauses.{value_bytes_after}
use Rattle.compose_pairs.proofs.map_at.Goals as goal

pub returns-in_default : goal.returns-in_default
returns-in_default c =
    let args = c.args in
    value_bytes_after (answer_of _ _
    (map_none args.store.now args.places.now args.n args.mark args.path.now false c.best_prefix.result
    c.best_prefix.ensures c.in_default.is)
    _ _ _ _ (c.keep_at.ensures.value, c.keep_at.ensures.bytes_after))

pub returns-then-is_empty : goal.returns-then-is_empty
returns-then-is_empty c =
    let args = c.args in
    value_bytes_after (answer_of _ _
    (map_block args.store.now args.places.now args.n args.mark args.path.now false c.best_prefix.result
    c.best_prefix.ensures _ c.in-Some.is _ c.key_at-new.ensures (search rules))
    _ _ _ _ (refl, refl))

pub slice_bounds-join_at-count : goal.slice_bounds-join_at-count
slice_bounds-join_at-count c =
    let args = c.args in
    map_inside args.store.now args.places.now args.n args.mark args.path.now false c.best_prefix.result
    c.best_prefix.ensures _ c.in-Some.is _ c.key_at-old.ensures

pub slice_bounds-join_at-start : goal.slice_bounds-join_at-start
slice_bounds-join_at-start c =
    let args = c.args in
    map_inside args.store.now args.places.now args.n args.mark args.path.now false c.best_prefix.result
    c.best_prefix.ensures _ c.in-Some.is _ c.key_at-old.ensures

pub join_at-requires : goal.join_at-requires
join_at-requires c =
    let args = c.args in
    room_of _ _
    (map_join args.store.now args.places.now args.n args.mark args.path.now false c.best_prefix.result
    c.best_prefix.ensures _ c.in-Some.is _ _ _ c.key_at-new.ensures (search rules) c.key_at-old.ensures
    c.key_at-new.ensures)
    _ args.bytes.now c.requires

pub returns : goal.returns
returns c =
    let args = c.args in
    value_bytes_after (answer_of _ _
    (map_join args.store.now args.places.now args.n args.mark args.path.now false c.best_prefix.result
    c.best_prefix.ensures _ c.in-Some.is _ _ _ c.key_at-new.ensures (search rules) c.key_at-old.ensures
    c.key_at-new.ensures)
    _ _ _ _ (ap Some c.join_at.ensures.value, c.join_at.ensures.bytes_after))
