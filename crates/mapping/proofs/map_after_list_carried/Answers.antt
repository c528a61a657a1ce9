use Rattle.std.proofs.Common.{rules, Err, ◌≡◌}
use mathlib.Core.Path.{refl}
use Rattle.path_rest.proofs.CarriedLaws.{refusing_carried, same_carried}
use Rattle.mapping.proofs.DirectionLaws.{after_refused, after_short, after_passed, after_length}
use Rattle.mapping.proofs.map_after_list_carried.Goals as goal

pub returns-in_err-first_refusal : goal.returns-in_err-first_refusal
returns-in_err-first_refusal c = let r : c.from_residual.result ≡ Err c.in_err-first_refusal.field-0.0 = search rules in rw r (refusing_carried _ _ _ (after_refused _ _ _ _ _ _ _ _ _ c.new.ensures c.first_refusal.ensures _ c.in_err-first_refusal.was) _)

pub returns-then-out-lt255 : goal.returns-then-out-lt255
returns-then-out-lt255 c =
    refusing_carried _ _ _
    (after_short _ _ _ _ _ _ _ _ _ c.new.ensures c.first_refusal.ensures
    c.in_ok-first_refusal.was c.if-out-lt255.true)
    _

pub map_in_direction-requires : goal.map_in_direction-requires
map_in_direction-requires c = (after_length _ _ _ _ c.new.ensures c.first_refusal.ensures c.in_ok-first_refusal.was, c.if-out-lt255.false)

pub returns : goal.returns
returns c =
    same_carried _ _ _ _
    (after_passed _ _ _ _ _ _ _ _ _ c.new.ensures c.first_refusal.ensures c.in_ok-first_refusal.was
    c.if-out-lt255.false)
    refl _ _ _ c.map_in_direction.ensures
