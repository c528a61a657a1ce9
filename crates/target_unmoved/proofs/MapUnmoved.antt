-- Maps leave the target part. A pair matches a path exactly if it matches the own part, so both select the same pair.
use Rattle.std.specs.Prelude.{Option, Some, None}
use mathlib.Core.Path.{◌≡◌, refl, sym, ap, ◌∙◌}
use mathlib.Core.Bool.{Bool, true, false, cond, ◌&&◌, not}
use mathlib.Core.List.{◌∷◌, ◌++◌, append-nil}
use Prim.Native.Nat.{ℕ}
use Rattle.text.specs.Text.{Text, is_nil, lacks_byte}
use Rattle.text.proofs.TextLaws.{no_text}
use Rattle.path_grammar.specs.Own.{own_part, target_part}
use Rattle.path_grammar.specs.Legal.{is_end}
use Rattle.path_grammar.proofs.OwnLaws.{own_lacks, own_all, target_none}
use Rattle.path_prefix.specs.Elements.{element_count}
use Rattle.path_join.specs.Join.{replace_prefix}
use Rattle.path_join.specs.Tail.{followed_by_target}
use Rattle.path_join.proofs.TailLaws.{appended, prefix_before, replace_before, replaced_lacks, leaves_target}
use Rattle.path_parts.specs.Strip.{strip_from, strip}
use Rattle.path_parts.proofs.StripLaws.{strip_own, strip_target, strip_legal}
use Rattle.pair_list.specs.Pair.{all_ends}
use Rattle.pair_list.specs.LongestMatch.{matches, longest_match}
use Rattle.pair_list.proofs.BestLaws.{best_agree}
use Rattle.map_spec.specs.Map.{Map, map_source, map_target, map_size, match_source, match_target, map_by, map_source_to_target, map_target_to_source, eq_index, require_invertible, translate_to_target}
use Rattle.map_spec.proofs.EndLaws.{ends_source, ends_target}
use Rattle.target_unmoved.specs.Unmoved.{LeavesTarget, LeavesTargetChecked, outcome_with_target}
use Rattle.target_unmoved.proofs.MadeLaws.{KeepsByte, NotInEnds, dot_not, leaves_checked}

-- The longest match among ends is the same for a text with a dot and for that text with a bracket after it.
match_before : (o z : Text) → lacks_byte 46 o ≡ false → (key : ℕ → Text) → ((i : ℕ) → is_end (key i) ≡ true) → (n : ℕ)
    → longest_match (o ++ 91 ∷ z) key n ≡ longest_match o key n
unfolding longest_match matches
match_before o z dotted key ends n =
    best_agree (λ i. matches (o ++ 91 ∷ z) (key i)) (λ i. matches o (key i)) (λ i. element_count (key i)) (λ i. element_count (key i)) n
    (λ i h. ap (λ (b : Bool). not (is_nil (key i)) && b) (prefix_before o z (key i) dotted (ends i))) (λ i h. refl)

-- Plain mapping from the ends a to the ends b.
module _ (m : Map) (a b : ℕ → Text) (sources : (i : ℕ) → is_end (a i) ≡ true) (targets : (i : ℕ) → is_end (b i) ≡ true) where
  map_before : (o z : Text) → lacks_byte 46 o ≡ false → (i : Option ℕ) → map_by m a b (o ++ 91 ∷ z) i ≡ appended (91 ∷ z) (map_by m a b o i)
  unfolding appended
  map_before o z dotted None = go m.mark
    where
      go : (c : Bool) → cond c (Some (o ++ 91 ∷ z)) None ≡ appended (91 ∷ z) (cond c (Some o) None)
      go true = refl
      go false = refl
  map_before o z dotted (Some i) = go (is_nil (map_target m i))
    where
      go : (c : Bool) → cond c None (replace_prefix (o ++ 91 ∷ z) (a i) (b i)) ≡ appended (91 ∷ z) (cond c None (replace_prefix o (a i) (b i)))
      go true = refl
      go false = replace_before o z (a i) dotted (sources i) (b i)

  -- A byte that no end has is in the path made exactly if it was in the path before.
  map_keeps : (x : ℕ) → NotInEnds x → (i : Option ℕ) → KeepsByte x (λ (o : Text). map_by m a b o i)
  map_keeps x n None o q e = go m.mark e
    where
      go : (c : Bool) → cond c (Some o) None ≡ Some q → lacks_byte x q ≡ lacks_byte x o
      go true h = let k : o ≡ q = cc in ap (lacks_byte x) (sym k)
      go false h = absurd (no_text h)
  map_keeps x n (Some i) o q e = go (is_nil (map_target m i)) e
    where
      go : (c : Bool) → cond c None (replace_prefix o (a i) (b i)) ≡ Some q → lacks_byte x q ≡ lacks_byte x o
      go true h = absurd (no_text h)
      go false h = replaced_lacks x n.no_slash o (a i) (b i) q (n.no_end (a i) (sources i)) (n.no_end (b i) (targets i)) h

  plain : ℕ → Text → Option Text
  plain n p = map_by m a b p (longest_match p a n)

  plain_before : (n : ℕ) (o z : Text) → lacks_byte 46 o ≡ false → plain n (o ++ 91 ∷ z) ≡ appended (91 ∷ z) (plain n o)
  unfolding plain
  plain_before n o z dotted = ap (map_by m a b (o ++ 91 ∷ z)) (match_before o z dotted a sources n) ∙ map_before o z dotted (longest_match o a n)

  plain_leaves : (n : ℕ) → LeavesTarget (plain n)
  plain_leaves n = leaves_target (plain n) (plain_before n)

  plain_checked : (n : ℕ) → LeavesTargetChecked (plain n)
  unfolding plain
  plain_checked n = leaves_checked (plain n) (plain_leaves n) (λ x h o q. map_keeps x h (longest_match o a n) o q)

module _ (m : Map) (em : all_ends m.pairs ≡ true) where
  sources : (i : ℕ) → is_end (map_source m i) ≡ true
  sources = ends_source m.pairs em

  targets : (i : ℕ) → is_end (map_target m i) ≡ true
  targets = ends_target m.pairs em

  pub out_leaves : LeavesTarget (map_source_to_target m)
  unfolding map_source_to_target match_source plain
  out_leaves = plain_leaves m (map_source m) (map_target m) sources targets (map_size m)

  pub home_leaves : LeavesTarget (map_target_to_source m)
  unfolding map_target_to_source match_target plain
  home_leaves = plain_leaves m (map_target m) (map_source m) targets sources (map_size m)

  pub out_checks : LeavesTargetChecked (map_source_to_target m)
  unfolding map_source_to_target match_source plain
  out_checks = plain_checked m (map_source m) (map_target m) sources targets (map_size m)

  pub home_checks : LeavesTargetChecked (map_target_to_source m)
  unfolding map_target_to_source match_target plain
  home_checks = plain_checked m (map_target m) (map_source m) targets sources (map_size m)

  -- The invertibility check of a text with a dot is the same with and without the bracket.
  invertible_before : (z : Text) (i : Option ℕ) (x : Option Text) → ((q : Text) → x ≡ Some q → lacks_byte 46 q ≡ false)
      → require_invertible m i (appended (91 ∷ z) x) ≡ appended (91 ∷ z) (require_invertible m i x)
  unfolding require_invertible match_target appended
  invertible_before z i None d = refl
  invertible_before z i (Some q) d =
      ap (λ (j : Option ℕ). cond (eq_index i j) (Some (q ++ 91 ∷ z)) None) (match_before q z (d q refl) (map_target m) targets (map_size m))
      ∙ go (eq_index i (longest_match q (map_target m) (map_size m)))
    where
      go : (c : Bool) → cond c (Some (q ++ 91 ∷ z)) None ≡ appended (91 ∷ z) (cond c (Some q) None)
      go true = refl
      go false = refl

  -- The translation of a path without selections.
  carry : Text → Option Text
  carry x = require_invertible m (match_source m x) (map_source_to_target m x)

  out_keeps : (x : ℕ) → NotInEnds x → KeepsByte x (map_source_to_target m)
  unfolding map_source_to_target
  out_keeps x n o q = map_keeps m (map_source m) (map_target m) sources targets x n (match_source m o) o q

  carry_before : (o z : Text) → lacks_byte 46 o ≡ false → carry (o ++ 91 ∷ z) ≡ appended (91 ∷ z) (carry o)
  unfolding carry match_source map_source_to_target
  carry_before o z d =
      let i : Option ℕ = longest_match o (map_source m) (map_size m) in
      ap (λ (j : Option ℕ). require_invertible m j (map_by m (map_source m) (map_target m) (o ++ 91 ∷ z) j)) (match_before o z d (map_source m) sources (map_size m))
      ∙ ap (require_invertible m i) (map_before m (map_source m) (map_target m) sources targets o z d i)
      ∙ invertible_before z i (map_by m (map_source m) (map_target m) o i) (λ q e. out_keeps 46 dot_not o q e ∙ d)

  carry_keeps : (x : ℕ) → NotInEnds x → KeepsByte x carry
  unfolding carry require_invertible
  carry_keeps x n o q e = go (map_source_to_target m o) refl e
    where
      go : (r : Option Text) → map_source_to_target m o ≡ r → require_invertible m (match_source m o) r ≡ Some q → lacks_byte x q ≡ lacks_byte x o
      go None h k = absurd (no_text k)
      go (Some r) h k = kept (eq_index (match_source m o) (match_target m r)) k
        where
          kept : (c : Bool) → cond c (Some r) None ≡ Some q → lacks_byte x q ≡ lacks_byte x o
          kept true k = let w : r ≡ q = cc in rw (← w) (out_keeps x n o r h)
          kept false k = absurd (no_text k)

  carry_leaves : LeavesTarget carry
  carry_leaves = leaves_target carry carry_before

  carry_checks : LeavesTargetChecked carry
  carry_checks = leaves_checked carry carry_leaves carry_keeps

-- Stripping the own part is the own part of the stripped path.
strip_of_own : (p : Text) → own_part (strip p) ≡ strip (own_part p)
unfolding strip
strip_of_own p =
    sym (ap (λ (x : Text). strip_from false x ++ target_part (own_part p)) (own_all (own_part p) (own_lacks p))
    ∙ ap (λ (x : Text). strip_from false (own_part p) ++ x) (target_none (own_part p) (own_lacks p)) ∙ append-nil (strip_from false (own_part p)) ∙ sym (strip_own p))

-- Of a path only the target part counts for what follows an answer.
module _ (s p : Text) (t : target_part s ≡ target_part p) where
  followed_same : (o : Option Text) → followed_by_target s o ≡ followed_by_target p o
  unfolding followed_by_target
  followed_same None = refl
  followed_same (Some q) = rw t

  outcome_same : (o : Option Text) → outcome_with_target s o ≡ outcome_with_target p o
  unfolding outcome_with_target
  outcome_same None = refl
  outcome_same (Some q) = rw t

-- Translation is that of the stripped path, which has the same target part.
module _ (m : Map) (em : all_ends m.pairs ≡ true) where
  pub translation_leaves : LeavesTarget (translate_to_target m)
  unfolding translate_to_target carry
  translation_leaves p l =
      carry_leaves m em (strip p) (strip_legal p l) ∙ followed_same (strip p) p (strip_target p) (carry m em (own_part (strip p)))
      ∙ ap (λ (x : Text). followed_by_target p (carry m em x)) (strip_of_own p)

  pub translation_checks : LeavesTargetChecked (translate_to_target m)
  unfolding translate_to_target carry
  translation_checks p l =
      carry_checks m em (strip p) (strip_legal p l) ∙ outcome_same (strip p) p (strip_target p) (carry m em (own_part (strip p)))
      ∙ ap (λ (x : Text). outcome_with_target p (carry m em x)) (strip_of_own p)
