-- Meaning: Whatever carries a path carries its own part, and the target part follows as a plain tail. Requirements: "Mapping treats the bracketed
-- part as plain tail and leaves it."
use Rattle.std.specs.Prelude.{ℕ, ◌≡◌, true, cond, List, ◌++◌, ◌⊎◌, Option, Some, None}
use Rattle.text.specs.Text.{Text}
use Rattle.path_grammar.specs.Own.{own_part, target_part}
use Rattle.path_grammar.specs.Legal.{legal, at_most255}
use Rattle.path_join.specs.Tail.{followed_by_target}
use Rattle.refusal.specs.declared.Refusal.TheVariants.{NoPath, MadeTooLong, MadeIllegal}
use Rattle.refusal.specs.Outcome.{Outcome, path, refused, checked_option}
use Rattle.pair_list.specs.Pair.{Pair, all_ends}
use Rattle.map_spec.specs.Map.{Map, map_source_to_target, map_target_to_source, translate_to_target}
use Rattle.relocate_chain.specs.Chain.{Chained, chained, stopped, next_replacement, chain, shift_through_nearest_ancestor}

-- The answer of f for a legal path is the answer for its own part, then its target part.
abbrev pub LeavesTarget : (Text → Option Text) → Type 0
LeavesTarget f = (p : Text) → legal p ≡ true → f p ≡ followed_by_target p (f (own_part p))

-- The outcome for the path p with questions 6, 7 and 8, if o is the answer for its own part. The target part counts in question 7, and in no
-- other.
unfoldable pub outcome_with_target : Text → Option Text → Outcome
unfolding at_most255 legal target_part
outcome_with_target p None = refused NoPath
outcome_with_target p (Some q) = cond (at_most255 (q ++ target_part p)) (cond (legal q) (path (q ++ target_part p)) (refused MadeIllegal)) (refused MadeTooLong)

-- So it is with questions 6, 7 and 8 put to the answer of f.
abbrev pub LeavesTargetChecked : (Text → Option Text) → Type 0
LeavesTargetChecked f = (p : Text) → legal p ≡ true → checked_option (f p) ≡ outcome_with_target p (f (own_part p))

-- The chain's last path followed by the target part of p.
unfoldable pub chained_with_target : Text → Chained → Chained
chained_with_target p (chained q k) = chained (q ++ target_part p) k
chained_with_target p (stopped x) = stopped x

-- The theorems (proofs/Theorem.antt), for all maps and relocate lists whose ends are ends: first about the answers before questions 7 and 8, then
-- about the outcomes. A chain puts these questions to each step, so a path made on the way may be too long with its target part where its own part
-- alone is not.
pub record TargetUnmoved : Type 0 where
  -- Plain mapping, out and home.
  pub out : (m : Map) → all_ends m.pairs ≡ true → LeavesTarget (map_source_to_target m)
  pub home : (m : Map) → all_ends m.pairs ≡ true → LeavesTarget (map_target_to_source m)
  -- Translation, which strips the selections of the own part.
  pub translation : (m : Map) → all_ends m.pairs ≡ true → LeavesTarget (translate_to_target m)
  -- Shifting, which always has an answer.
  pub shifting : (l : List Pair) → all_ends l ≡ true → (p : Text) → legal p ≡ true
      → shift_through_nearest_ancestor l p ≡ shift_through_nearest_ancestor l (own_part p) ++ target_part p
  -- One replacement of a chain.
  pub replacing : (skip : Option Text) (l : List Pair) → all_ends l ≡ true → LeavesTarget (next_replacement skip l)
  -- The whole chain: the same number of replacements, unless a path made on the way is too long.
  pub chaining : (skip : Option Text) (l : List Pair) → all_ends l ≡ true → (p : Text) → legal p ≡ true
      → (chain skip l p ≡ chained_with_target p (chain skip l (own_part p))) ⊎ (chain skip l p ≡ stopped MadeTooLong)
  -- The outcomes of mapping, translation, shifting and one replacement.
  pub out_checked : (m : Map) → all_ends m.pairs ≡ true → LeavesTargetChecked (map_source_to_target m)
  pub home_checked : (m : Map) → all_ends m.pairs ≡ true → LeavesTargetChecked (map_target_to_source m)
  pub translation_checked : (m : Map) → all_ends m.pairs ≡ true → LeavesTargetChecked (translate_to_target m)
  pub shifting_checked : (l : List Pair) → all_ends l ≡ true → LeavesTargetChecked (λ (p : Text). Some (shift_through_nearest_ancestor l p))
  pub replacing_checked : (skip : Option Text) (l : List Pair) → all_ends l ≡ true → LeavesTargetChecked (next_replacement skip l)
