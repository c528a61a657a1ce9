-- Meaning: A map as one leg of a route: its outcomes out and home, and the terms of the round-trip requirement (demand 3).
use Rattle.std.specs.Prelude.{◌≡◌, true, false, Some}
use Rattle.text.specs.Text.{Text}
use Rattle.path_grammar.specs.Own.{has_variant_selection}
use Rattle.path_grammar.specs.Legal.{legal, at_most255}
use Rattle.refusal.specs.Outcome.{Outcome, checked_option}
use Rattle.map_spec.specs.Map.{Map, map_source_to_target, map_target_to_source, translate_to_target}

-- The outcome of a leg on the way out, with questions 6, 7 and 8. Requirements: "Out: `translate_to_target`".
unfoldable pub translate_checked : Map → Text → Outcome
unfolding translate_to_target checked_option
translate_checked m p = checked_option (translate_to_target m p)

-- The outcome of a leg on the way home, with questions 6, 7 and 8. Requirements: "Home: `map_target_to_source`".
unfoldable pub map_back_checked : Map → Text → Outcome
unfolding map_target_to_source checked_option
map_back_checked m q = checked_option (map_target_to_source m q)

-- The path p is legal, has at most 255 bytes and has no variant selection of its own.
pub record SelectionFreePath (p : Text) : Type 0 where
  pub is_legal : legal p ≡ true
  pub is_short : at_most255 p ≡ true
  pub is_plain : has_variant_selection p ≡ false

-- The round trip of one leg for the path p that reached it: plain mapping takes p to q, a legal path of at most 255 bytes, and plain
-- mapping backwards takes q to p. Requirements: "Plain mapping is `map_source_to_target`; plainly back is `map_target_to_source`, whose
-- keys are the targets."
pub record PlainRoundTrip (m : Map) (p q : Text) : Type 0 where
  pub out : map_source_to_target m p ≡ Some q
  pub is_legal : legal q ≡ true
  pub is_short : at_most255 q ≡ true
  pub back : map_target_to_source m q ≡ Some p
