use mathlib.Core.Bool.{false}
use Rattle.text.proofs.WriteLaws.{rest_whole}
use Rattle.path_rest.proofs.CarriedLaws.{refusing_carried, answering_carried}
use Rattle.map_apply.proofs.MapBranches.{map_inside}
use Rattle.map_apply.proofs.TranslateBranches.{text_none, text_block, text_pair, source_none, source_found}
use Rattle.map_apply.proofs.translate_text_carried.Goals as goal

pub returns-in_default : goal.returns-in_default
returns-in_default c =
    let found = c.best_prefix.result in
    let is_found = c.best_prefix.ensures in
    answering_carried _ _ _ _ (text_none _ _ _ _ _ found is_found c.in_default.is) (source_none _ _ _ _ _ found is_found c.in_default.is) _ _ _ _
    c.with_rest.ensures c.translate_by_mark-reply.ensures

pub returns-then-new-eq0 : goal.returns-then-new-eq0
returns-then-new-eq0 c =
    refusing_carried _ _ _
    (text_block _ _ _ _ _ c.best_prefix.result c.best_prefix.ensures _ c.in-Some.is _
    c.key_at-new.ensures c.if-new-eq0.true)
    _

pub slice_bounds-translate_by_pair-count : goal.slice_bounds-translate_by_pair-count
slice_bounds-translate_by_pair-count c =
    let args = c.args in
    map_inside _ _ _ args.mark _ false c.best_prefix.result c.best_prefix.ensures _ c.in-Some.is _
    c.key_at-old.ensures

pub slice_bounds-translate_by_pair-start : goal.slice_bounds-translate_by_pair-start
slice_bounds-translate_by_pair-start c =
    let args = c.args in
    map_inside _ _ _ args.mark _ false c.best_prefix.result c.best_prefix.ensures _ c.in-Some.is _
    c.key_at-old.ensures

pub returns : goal.returns
returns c =
    let found = c.best_prefix.result in
    let is_found = c.best_prefix.ensures in
    answering_carried _ _ _ _
    (text_pair _ _ _ _ _ found is_found _ c.in-Some.is _ _ c.key_at-new.ensures c.if-new-eq0.false c.key_at-old.ensures)
    (source_found _ _ _ _ _ found is_found _ c.in-Some.is _ _ c.key_at-old.ensures c.rest_index.ensures)
    _ _ _ _ c.with_rest-2.ensures (rw rest_whole at c.translate_by_pair-reply.ensures)
