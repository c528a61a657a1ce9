use mathlib.Core.Path.{refl}
use Rattle.path_rest.proofs.CarriedLaws.{same_carried}
use Rattle.mapping.proofs.DirectionLaws.{call_is_after}
use Rattle.mapping.proofs.call.Goals as goal

pub returns : goal.returns
returns c =
    same_carried _ _ _ _ (call_is_after _ _ _ _ _ _ _ c.validate_list_and_path-list.ensures) refl _ _ _
    c.map_after_list_carried.ensures
