use Rattle.path_rest.proofs.CarriedLaws.{same_carried}
use Rattle.route.proofs.RunBranches.{leg_home, leg_out, rest_home, rest_out}
use Rattle.route.proofs.map_leg.Goals as goal

pub returns-then-home : goal.returns-then-home
returns-then-home c =
    let places = c.leg_places-list.ensures in
    let size = c.size_at-n.ensures in
    let kind = c.kind_at-mark.ensures in
    same_carried _ _ _ _ (leg_home _ _ _ _ _ _ _ places size kind _ _ c.if-home.true) (rest_home _ _ _ _ _ _ _ places size kind _ _ c.if-home.true) _ _ _
    c.map_text_carried.ensures

pub returns : goal.returns
returns c =
    let places = c.leg_places-list.ensures in
    let size = c.size_at-n.ensures in
    let kind = c.kind_at-mark.ensures in
    same_carried _ _ _ _ (leg_out _ _ _ _ _ _ _ places size kind _ _ c.if-home.false) (rest_out _ _ _ _ _ _ _ places size kind _ _ c.if-home.false) _ _ _
    c.translate_text_carried.ensures
