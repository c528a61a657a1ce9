use Rattle.path_rest.proofs.CarriedLaws.{refusing_carried, answering_carried}
use Rattle.map_apply.proofs.MapBranches.{map_none, map_block, map_apply, map_inside, rest_none, rest_found}
use Rattle.map_apply.proofs.map_text_carried.Goals as goal

pub returns-in_default : goal.returns-in_default
returns-in_default c =
    let args = c.args in
    let found = c.best_prefix.result in
    let is_found = c.best_prefix.ensures in
    answering_carried _ _ _ _ (map_none _ _ _ args.mark _ args.invert found is_found c.in_default.is)
    (rest_none _ _ _ args.mark _ args.invert found is_found c.in_default.is) _ _ _ _ c.with_rest.ensures c.keep_path.ensures

pub returns-then-block-eq0 : goal.returns-then-block-eq0
returns-then-block-eq0 c =
    let args = c.args in
    refusing_carried _ _ _
    (map_block _ _ _ args.mark _ args.invert c.best_prefix.result c.best_prefix.ensures _ c.in-Some.is _
    c.key_at-block.ensures c.if-block-eq0.true)
    _

pub apply_pair-reply-requires : goal.apply_pair-reply-requires
apply_pair-reply-requires c =
    let args = c.args in
    map_inside _ _ _ args.mark _ args.invert c.best_prefix.result c.best_prefix.ensures _ c.in-Some.is _
    c.key_at-old.ensures

pub returns : goal.returns
returns c =
    let args = c.args in
    let found = c.best_prefix.result in
    let is_found = c.best_prefix.ensures in
    answering_carried _ _ _ _
    (map_apply _ _ _ args.mark _ args.invert found is_found _ c.in-Some.is _ _ _ c.key_at-block.ensures c.if-block-eq0.false
    c.key_at-old.ensures c.key_at-new.ensures)
    (rest_found _ _ _ args.mark _ args.invert found is_found _ c.in-Some.is _ _ c.key_at-old.ensures c.rest_index.ensures)
    _ _ _ _ c.with_rest-2.ensures c.apply_pair-reply.ensures
