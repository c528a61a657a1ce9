-- Meaning: The rest of a mapped path: the part of the path given that the map carries over unaltered. Requirements: "plain mapping gives back that
-- rest as a part of the text the caller handed in, beside the path made."
use Rattle.std.specs.Prelude.{ℕ, ◌≡◌, true, false, cond, [], Option, Some, None}
use Rattle.text.specs.Text.{Text}
use Rattle.path_grammar.specs.Own.{has_variant_selection}
use Rattle.path_grammar.specs.Legal.{legal}
use Rattle.path_join.specs.Join.{join}
use Rattle.path_rest.specs.Rest.{rest_start, rest_text, followed_by, EndsWith}
use Rattle.pair_list.specs.Pair.{all_ends}
use Rattle.map_spec.specs.Map.{Map, map_source, map_target, match_source, match_target, map_source_to_target, map_target_to_source, translate_to_target}

-- The rest of the path p, given the selected pair and the keys: where the prefix test says that it begins. Requirements: "For a path that only the
-- mark returns the rest is the whole text".
unfoldable pub rest_by : (ℕ → Text) → Text → Option ℕ → Option ℕ
unfolding rest_start
rest_by key p None = Some 0
rest_by key p (Some i) = rest_start p (key i)

-- The rest of plain mapping.
unfoldable pub source_rest : Map → Text → Option ℕ
unfolding rest_by match_source
source_rest m p = rest_by (map_source m) p (match_source m p)

-- The rest of plain mapping backwards.
unfoldable pub target_rest : Map → Text → Option ℕ
unfolding rest_by match_target
target_rest m q = rest_by (map_target m) q (match_target m q)

-- The rest of translation. Requirements: "`translate_to_target` gives the rest only where there is no selection to strip, and an empty part
-- otherwise."
unfoldable pub translated_rest : Map → Text → Option ℕ
unfolding source_rest has_variant_selection
translated_rest m p = cond (has_variant_selection p) None (source_rest m p)

-- What the rest r of a path p that was mapped to q is, given the selected pair, the keys a and the other ends b.
pub record RestUnaltered (a b : ℕ → Text) (selected : Option ℕ) (p q r : Text) : Type 0 where
  -- With the mark only, the rest is the whole of both texts.
  pub by_mark : selected ≡ None → (r ≡ p) × (q ≡ p)
  -- With a pair, the path given is the key followed by the rest,
  pub given : (i : ℕ) → selected ≡ Some i → p ≡ followed_by (a i) r
  -- and the path made is the other end followed by the rest,
  pub made : (i : ℕ) → selected ≡ Some i → q ≡ followed_by (b i) r
  -- which is the join of the other end and the rest.
  pub joined : (i : ℕ) → selected ≡ Some i → q ≡ join [] (b i) r
  -- So the rest is the end of both texts.
  pub ends_given : EndsWith p r
  pub ends_made : EndsWith q r

-- Theorem (proofs/MapRest.antt): so it is for every accepted plain mapping, out and back, and for every accepted translation of a path without
-- selections.
abbrev pub SourceRestUnaltered : Type 0
SourceRestUnaltered =
    (m : Map) (p q : Text) → all_ends m.pairs ≡ true → legal p ≡ true → map_source_to_target m p ≡ Some q → legal q ≡ true
    → RestUnaltered (map_source m) (map_target m) (match_source m p) p q (rest_text p (source_rest m p))

abbrev pub TargetRestUnaltered : Type 0
TargetRestUnaltered =
    (m : Map) (p q : Text) → all_ends m.pairs ≡ true → legal p ≡ true → map_target_to_source m p ≡ Some q → legal q ≡ true
    → RestUnaltered (map_target m) (map_source m) (match_target m p) p q (rest_text p (target_rest m p))

abbrev pub TranslatedRestUnaltered : Type 0
TranslatedRestUnaltered =
    (m : Map) (p q : Text) → all_ends m.pairs ≡ true → legal p ≡ true → has_variant_selection p ≡ false → translate_to_target m p ≡ Some q → legal q ≡ true
    → RestUnaltered (map_source m) (map_target m) (match_source m p) p q (rest_text p (translated_rest m p))
