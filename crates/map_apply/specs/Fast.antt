-- Method: Plain mapping and translation as the code performs them, on any bytes: `join_illegal` decides question 8, without scanning the joined path
-- again. For ends and a legal path of at most 255 bytes this agrees with the questions (proofs/FastLaws.antt).
use Rattle.std.specs.Prelude.{ℕ, Bool, true, false, cond, ◌&&◌, leb, length, drop, Option, Some, None}
use Rattle.text.specs.Text.{Text, is_nil}
use Rattle.path_grammar.specs.Legal.{at_most255}
use Rattle.path_join.specs.Join.{join, join_illegal}
use Rattle.refusal.specs.declared.Refusal.TheVariants.{NoPath, MadeTooLong, MadeIllegal}
use Rattle.refusal.specs.Outcome.{Outcome, path, refused}
use Rattle.map_rest.specs.MapRest.{source_rest, target_rest}
use Rattle.map_spec.specs.Map.{Map, map_source, map_target, match_source, match_target, eq_index}

-- The outcome for a path q that was built, and that is illegal if `illegal` is set. Question 8 comes before 7 here: after validation, an
-- illegal path is no longer than the path it was built from, so both never fail together (proofs/FastLaws.antt).
abbrev pub checked_join : Bool → Text → Outcome
checked_join illegal q = cond illegal (refused MadeIllegal) (cond (at_most255 q) (path q) (refused MadeTooLong))

-- The outcome of appending the remainder r, which followed s, to t.
unfoldable pub join_checked : Text → Text → Text → Outcome
unfolding join_illegal join at_most255
join_checked s t r = checked_join (join_illegal t r) (join s t r)

-- The path itself if the map has the mark; otherwise no path.
unfoldable pub keep_path : Bool → Text → Outcome
unfolding at_most255
keep_path mark p = cond mark (cond (at_most255 p) (path p) (refused MadeTooLong)) (refused NoPath)

-- The path p mapped by the selected pair, from the ends a to the ends b; t are the targets.
unfoldable pub map_fast_by : Bool → (ℕ → Text) → (ℕ → Text) → (ℕ → Text) → Text → Option ℕ → Outcome
unfolding join_checked keep_path
map_fast_by mark a b t p None = keep_path mark p
map_fast_by mark a b t p (Some i) = cond (is_nil (t i)) (refused NoPath) (join_checked (a i) (b i) (drop (length (a i)) p))

-- Plain mapping: forward, or backwards if the flag (`invert` in the code) is set.
unfoldable pub map_fast : Bool → Map → Text → Outcome
unfolding map_fast_by match_source match_target
map_fast false m p = map_fast_by m.mark (map_source m) (map_target m) (map_target m) p (match_source m p)
map_fast true m p = map_fast_by m.mark (map_target m) (map_source m) (map_target m) p (match_target m p)

-- The rest of plain mapping: forward, or backwards if the flag is set.
unfoldable pub plain_rest : Bool → Map → Text → Option ℕ
unfolding source_rest target_rest
plain_rest false m p = source_rest m p
plain_rest true m p = target_rest m p

-- No pair is selected.
abbrev pub is_none : Option ℕ → Bool
is_none None = true
is_none (Some i) = false

-- Translation of a path that no pair matches: the mark returns the path, unless mapping it backwards would select a pair.
unfoldable pub translate_by_mark : Map → Text → Outcome
unfolding keep_path match_target
translate_by_mark m p = cond (m.mark && is_none (match_target m p)) (keep_path true p) (refused NoPath)

-- Translation by pair i: mapping the result backwards must select the same pair. The code builds the path in 512 bytes, which are enough
-- for two paths and a slash.
unfoldable pub translate_by_pair : Map → ℕ → Text → Text → Text → Outcome
unfolding join_checked join match_target
translate_by_pair m i s t r =
    cond (leb (length (join s t r)) 512) (cond (eq_index (Some i) (match_target m (join s t r))) (join_checked s t r) (refused NoPath)) (refused MadeTooLong)

-- Translation by the selected pair, or by the mark if there is none; an empty target gives no path.
unfoldable pub translate_fast_by : Map → Text → Option ℕ → Outcome
unfolding translate_by_mark translate_by_pair
translate_fast_by m p None = translate_by_mark m p
translate_fast_by m p (Some i) = cond (is_nil (map_target m i)) (refused NoPath) (translate_by_pair m i (map_source m i) (map_target m i) (drop (length (map_source m i)) p))

-- Translation of a path without selections.
unfoldable pub translate_fast : Map → Text → Outcome
unfolding translate_fast_by match_source
translate_fast m p = translate_fast_by m p (match_source m p)
