-- The hypothesis of `leg_exact` is needed: with the mark and a pair whose source is empty, `/A` makes the plain round trip, and the leg
-- refuses it with 6.
use mathlib.Core.Path.{◌≡◌, refl, sym, ◌∙◌}
use mathlib.Core.Bool.{true}
use mathlib.Core.List.{[], ◌∷◌}
use Rattle.text.specs.Text.{Text, bytes}
use Rattle.path_grammar.specs.Own.{has_variant_selection}
use Rattle.path_grammar.specs.Legal.{legal, at_most255}
use Rattle.pair_list.specs.Pair.{all_ends}
use Rattle.refusal.specs.declared.Refusal.TheVariants.{NoPath}
use Rattle.refusal.specs.Outcome.{path, refused}
use Rattle.map_spec.specs.Map.{Map, map_source_to_target, map_target_to_source}
use Rattle.map_spec.specs.Leg.{translate_checked, SelectionFreePath, PlainRoundTrip}
use Rattle.map_spec.proofs.OutcomeLaws.{no_path_lem}

-- The map with the mark and the pair empty→`/`.
abbrev marked : Map
marked = record { pairs = record { source = []; target = bytes "/" } ∷ []; mark = true }

marked_ends : all_ends marked.pairs ≡ true
unfolding all_ends
marked_ends = refl

plain : SelectionFreePath (bytes "/A")
unfolding legal at_most255 has_variant_selection
plain = record { is_legal = refl; is_short = refl; is_plain = refl }

there_and_back : PlainRoundTrip marked (bytes "/A") (bytes "/A")
unfolding map_source_to_target map_target_to_source legal at_most255
there_and_back = record { out = refl; is_legal = refl; is_short = refl; back = refl }

refuses : translate_checked marked (bytes "/A") ≡ refused NoPath
unfolding translate_checked
refuses = refl

-- Not every map of ends translates each path that makes the plain round trip.
pub full_needed : ((m : Map) → all_ends m.pairs ≡ true → (p q : Text) → SelectionFreePath p → PlainRoundTrip m p q → translate_checked m p ≡ path q) → ⊥
full_needed f = no_path_lem (sym refuses ∙ f marked marked_ends (bytes "/A") (bytes "/A") plain there_and_back)
