-- Meaning: One leg of a route. Requirements: "A leg is a map, or a relocate list".
use Rattle.std.specs.Prelude.{Bool, true, false, List, length}
use Rattle.text.specs.Text.{Text}
use Rattle.pair_list.specs.Pair.{Pair, all_ends}
use Rattle.refusal.specs.Outcome.{Outcome}
use Rattle.map_spec.specs.Map.{Map}
use Rattle.map_spec.specs.New.{new}
use Rattle.map_spec.specs.Leg.{translate_checked, map_back_checked}
use Rattle.relocates.specs.Status.{active_pairs, relocate_map}

-- A leg: a map or a relocate list.
pub data Leg : Type 0 where
  by_map : Map → Leg
  by_relocates : List Pair → Leg

-- The map of a leg. Requirements: "A leg's map is that map, or what that `new` gives."
unfoldable pub leg_map : Leg → Map
unfolding relocate_map
leg_map (by_map m) = m
leg_map (by_relocates l) = relocate_map l

-- Whether each end of each pair of the leg is a prim path, `/` or empty.
unfoldable pub leg_ends : Leg → Bool
unfolding all_ends
leg_ends (by_map m) = all_ends m.pairs
leg_ends (by_relocates l) = all_ends l

-- The leg as which a list of pairs is closed: a relocate list if the flag is set, otherwise the map that `new` gives.
unfoldable pub closed_leg : Bool → List Pair → Leg
unfolding new
closed_leg false l = by_map (new l)
closed_leg true l = by_relocates l

-- The pairs that the map of a closed leg is built from, whose ends count before redundant pairs are dropped: all pairs of a map leg, "a
-- relocate leg by its Active pairs".
unfoldable pub counted_pairs : Bool → List Pair → List Pair
unfolding active_pairs
counted_pairs false l = l
counted_pairs true l = active_pairs l (length l)

-- The leg in the direction out. Requirements: "Out: `translate_to_target`".
unfoldable pub outward : Leg → Text → Outcome
unfolding leg_map translate_checked
outward x p = translate_checked (leg_map x) p

-- The leg in the direction home. Requirements: "Home: `map_target_to_source`".
unfoldable pub homeward : Leg → Text → Outcome
unfolding leg_map map_back_checked
homeward x q = map_back_checked (leg_map x) q
