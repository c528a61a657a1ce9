-- For ends and a legal path of at most 255 bytes, the outcomes of the code are those of the definitions with the questions.
use Rattle.std.specs.Prelude.{Option, Some, None}
use mathlib.Core.Path.{◌≡◌, refl, sym, ap, ◌∙◌}
use mathlib.Core.Bool.{Bool, true, false, not, cond, ◌&&◌, ◌||◌, true≢false, false≢true}
use mathlib.Core.List.{[], ◌∷◌, ◌++◌}
use Prim.Native.Nat.{ℕ, ◌+◌, ◌≤◌}
use native.Mathlib.Omega.{arith}
use lib.Dec.{eqb}
use lib.ListN.{length, drop, length-append, length-drop}
use borrow.Author.Tests.{le-leb, eqb-true}
use Rattle.text.specs.Text.{Text, is_nil, ends_with_byte}
use Rattle.text.proofs.BoolLaws.{and_l, and_r, and_no, not_true}
use Rattle.path_grammar.specs.Legal.{is_name_start_byte, is_name_byte, is_root, legal, at_most255, is_end}
use Rattle.path_prefix.specs.Prefix.{has_prefix}
use Rattle.path_join.specs.Join.{is_child, separator_len, join, replace_prefix, starts_suffix, join_illegal}
use Rattle.path_prefix.proofs.PrefixLaws.{prefix_rest}
use Rattle.path_join.proofs.ReplaceLaws.{replace_prefix_lem}
use Rattle.path_join.proofs.SeparatorLaws.{separator_after_root, separator_before_suffix, separator_short_lem, join_length, body_short}
use Rattle.path_join.proofs.JoinLegal.{join_legal}
use Rattle.pair_list.specs.Pair.{all_short, all_ends}
use Rattle.pair_list.specs.LongestMatch.{longest_match, matches}
use Rattle.pair_list.proofs.LongestMatchLaws.{chosen_best}
use Rattle.pair_list.proofs.PlaceLaws.{short_at}
use Rattle.refusal.specs.declared.Refusal.TheVariants.{NoPath}
use Rattle.refusal.specs.Outcome.{refused, checked, checked_option}
use Rattle.map_spec.specs.Map.{Map, map_source, map_target, map_size, match_source, match_target, map_by, map_source_to_target, map_target_to_source, eq_index, require_invertible}
use Rattle.map_apply.specs.Fast.{join_checked, keep_path, map_fast_by, map_fast, is_none, translate_by_mark, translate_by_pair, translate_fast_by, translate_fast}
use Rattle.map_spec.proofs.EndLaws.{ends_source, ends_target}
use Rattle.path_grammar.proofs.LegalLaws.{short_fits}

-- A remainder that begins with `.` or `{` is not a child prim.
suffix_child : (s : Text) (a : ℕ) → (eqb a 46 || eqb a 123) ≡ true → is_child s a ≡ false
unfolding is_child is_name_byte is_name_start_byte
suffix_child s a h = go (eqb a 46) refl (eqb a 123) refl h
  where
    go : (b : Bool) → eqb a 46 ≡ b → (c : Bool) → eqb a 123 ≡ c → (b || c) ≡ true → is_child s a ≡ false
    go true e c f g = rw (eqb-true a 46 e) (and_no (ends_with_byte 125 s))
    go false e true f g = rw (eqb-true a 123 f) (and_no (ends_with_byte 125 s))
    go false e false f g = absurd (false≢true g)

root_length : (t : Text) → (is_nil t || is_root t) ≡ true → length t + cond (is_root t) 0 1 ≡ 1
root_length [] h = refl
root_length (a ∷ []) h = rw h
root_length (a ∷ b ∷ t) h = absurd (false≢true (sym (and_no (eqb a 47)) ∙ h))

-- An illegal joined path is no longer than the original path: only `/` or nothing precedes the remainder.
illegal_short : (s t r : Text) → is_nil s ≡ false → join_illegal t r ≡ true → length (join s t r) ≤ length s + length r
unfolding join_illegal
illegal_short s t [] n h = absurd (false≢true (sym (and_no (is_nil t || is_root t)) ∙ h))
illegal_short [] t (a ∷ r) n h = absurd (true≢false n)
illegal_short (c ∷ s) t (a ∷ r) n h = go (is_root (c ∷ s)) refl
  where
    p : Text
    p = c ∷ s

    one : length t + cond (is_root t) 0 1 ≡ 1
    one = root_length t (and_l (is_nil t || is_root t) (starts_suffix (a ∷ r)) h)

    suffix : (eqb a 46 || eqb a 123) ≡ true
    suffix = and_r (is_nil t || is_root t) (starts_suffix (a ∷ r)) h

    separated : (b : Bool) → is_root p ≡ b → length t + separator_len p t (a ∷ r) ≤ 1
    separated true e = rw (separator_after_root p t a r e) (omega (arith, one))
    separated false e = rw (separator_before_suffix p t a r e (suffix_child p a suffix)) (omega (arith, one))

    go : (b : Bool) → is_root p ≡ b → length (join p t (a ∷ r)) ≤ length p + length (a ∷ r)
    go b e = omega (arith, join_length p t (a ∷ r), separated b e, body_short p (a ∷ r))

-- The joined path of ends that the code builds, with questions 7 and 8 as defined.
joining_made : (s t p : Text) → is_end s ≡ true → is_nil s ≡ false → is_end t ≡ true → legal p ≡ true → length p ≤ 255 → has_prefix p s ≡ true
    → join_checked s t (drop (length s) p) ≡ checked (join s t (drop (length s) p))
unfolding join_checked checked
joining_made s t p es ns et lp sp h = go (join_illegal t r) refl
  where
    r : Text
    r = drop (length s) p

    whole : p ≡ s ++ r
    whole = (prefix_rest p s h).0

    legal-is : legal (join s t r) ≡ not (join_illegal t r)
    legal-is = join_legal s t r (rw whole at lp) es ns et (prefix_rest p s h).1

    long : length p ≡ length s + length r
    long = ap length whole ∙ length-append s r

    go : (b : Bool) → join_illegal t r ≡ b → join_checked s t r ≡ checked (join s t r)
    go true e =
        let f : at_most255 (join s t r) ≡ true = short_fits (join s t r) (omega (arith, long, illegal_short s t r ns e)) in
        rw (legal-is, e, f)
    go false e = rw (legal-is, e)

served : (p : Text) (key : ℕ → Text) (n i : ℕ) → longest_match p key n ≡ Some i → (is_nil (key i) ≡ false) × (has_prefix p (key i) ≡ true)
unfolding longest_match matches
served p key n i e =
    let h : (not (is_nil (key i)) && has_prefix p (key i)) ≡ true = (chosen_best (matches p) key n i e).does_pass in
    (not_true (is_nil (key i)) (and_l (not (is_nil (key i))) (has_prefix p (key i)) h), and_r (not (is_nil (key i))) (has_prefix p (key i)) h)

module _ (m : Map) (a b : ℕ → Text) (p : Text) (ea : (i : ℕ) → is_end (a i) ≡ true) (eb : (i : ℕ) → is_end (b i) ≡ true) (lp : legal p ≡ true) (sp : length p ≤ 255) where
  kept : (mark : Bool) → keep_path mark p ≡ checked_option (cond mark (Some p) None)
  unfolding keep_path checked_option checked
  kept true = rw (short_fits p sp, lp)
  kept false = refl

  carried : (i : ℕ) (c : Bool) → is_nil (a i) ≡ false → has_prefix p (a i) ≡ true
      → cond c (refused NoPath) (join_checked (a i) (b i) (drop (length (a i)) p)) ≡ checked_option (cond c None (replace_prefix p (a i) (b i)))
  unfolding checked_option
  carried i true n h = refl
  carried i false n h = joining_made (a i) (b i) p (ea i) n (eb i) lp sp h ∙ ap checked_option (sym (replace_prefix_lem p (a i) (b i) h))

  fast_checked : (n : ℕ) (o : Option ℕ) → longest_match p a n ≡ o → map_fast_by m.mark a b (map_target m) p o ≡ checked_option (map_by m a b p o)
  unfolding map_fast_by
  fast_checked n None e = kept m.mark
  fast_checked n (Some i) e = let w = served p a n i e in carried i (is_nil (map_target m i)) w.0 w.1

-- The outcomes of the code are those of the definitions.
module _ (m : Map) (p : Text) (em : all_ends m.pairs ≡ true) (lp : legal p ≡ true) (sp : length p ≤ 255) where
  pub fast_out : map_fast false m p ≡ checked_option (map_source_to_target m p)
  unfolding map_fast map_source_to_target match_source
  fast_out = fast_checked m (map_source m) (map_target m) p (ends_source m.pairs em) (ends_target m.pairs em) lp sp (map_size m) (match_source m p) refl

  pub fast_home : map_fast true m p ≡ checked_option (map_target_to_source m p)
  unfolding map_fast map_target_to_source match_target
  fast_home = fast_checked m (map_target m) (map_source m) p (ends_target m.pairs em) (ends_source m.pairs em) lp sp (map_size m) (match_target m p) refl

chosen_unfolded : (m : Map) (p : Text) → longest_match p (map_source m) (map_size m) ≡ match_source m p
unfolding match_source
chosen_unfolded m p = refl

no_pair : (m : Map) (i : ℕ) → refused NoPath ≡ checked_option (require_invertible m (Some i) None)
unfolding checked_option require_invertible
no_pair m i = refl

-- Translation of a path without selections.
join_short : (s t r : Text) → length t ≤ 255 → length r ≤ 255 → length (join s t r) ≤ 512
join_short s t r h k = rw (join_length s t r) (omega (arith, separator_short_lem s t r, body_short s r))

module _ (m : Map) (p : Text) (em : all_ends m.pairs ≡ true) (sm : all_short m.pairs ≡ true) (lp : legal p ≡ true) (sp : length p ≤ 255) where
  marked : (mark : Bool) (o : Option ℕ) → cond (mark && is_none o) (keep_path true p) (refused NoPath) ≡ checked_option (cond mark (cond (eq_index None o) (Some p) None) None)
  unfolding checked_option
  marked true None = kept m (map_source m) (map_target m) p (ends_source m.pairs em) (ends_target m.pairs em) lp sp true
  marked true (Some j) = refl
  marked false o = refl

  lost : (mark : Bool) → require_invertible m None (cond mark (Some p) None) ≡ cond mark (cond (eq_index None (match_target m p)) (Some p) None) None
  unfolding require_invertible
  lost true = refl
  lost false = refl

  module _ (i : ℕ) (n : is_nil (map_source m i) ≡ false) (h : has_prefix p (map_source m i) ≡ true) where
    abbrev j : Text
    j = join (map_source m i) (map_target m i) (drop (length (map_source m i)) p)

    pair : translate_by_pair m i (map_source m i) (map_target m i) (drop (length (map_source m i)) p) ≡ checked_option (require_invertible m (Some i) (replace_prefix p (map_source m i) (map_target m i)))
    unfolding translate_by_pair require_invertible checked_option
    pair =
        rw (
          replace_prefix_lem p (map_source m i) (map_target m i) h,
          le-leb (length j) 512 (join_short (map_source m i) (map_target m i) (drop (length (map_source m i)) p) (short_at m.pairs sm i).1 rest_short),
        )
        (go (eq_index (Some i) (match_target m j)))
      where
        rest_short : length (drop (length (map_source m i)) p) ≤ 255
        rest_short = simp length-drop (omega arith)

        go : (b : Bool) → cond b (join_checked (map_source m i) (map_target m i) (drop (length (map_source m i)) p)) (refused NoPath) ≡ checked_option (cond b (Some j) None)
        go true = joining_made (map_source m i) (map_target m i) p (ends_source m.pairs em i) n (ends_target m.pairs em i) lp sp h
        go false = refl

  translate_by : (o : Option ℕ) → match_source m p ≡ o → translate_fast_by m p o ≡ checked_option (require_invertible m o (map_by m (map_source m) (map_target m) p o))
  unfolding translate_fast_by translate_by_mark
  translate_by None e = rw (lost m.mark) (marked m.mark (match_target m p))
  translate_by (Some i) e = let w = matched_out i e in blocked (is_nil (map_target m i)) (pair i w.0 w.1)
    where
      matched_out : (i : ℕ) → match_source m p ≡ Some i → (is_nil (map_source m i) ≡ false) × (has_prefix p (map_source m i) ≡ true)
      matched_out i e = served p (map_source m) (map_size m) i (chosen_unfolded m p ∙ e)

      blocked : (b : Bool) → translate_by_pair m i (map_source m i) (map_target m i) (drop (length (map_source m i)) p) ≡ checked_option (require_invertible m (Some i) (replace_prefix p (map_source m i) (map_target m i)))
          → cond b (refused NoPath) (translate_by_pair m i (map_source m i) (map_target m i) (drop (length (map_source m i)) p))
          ≡ checked_option (require_invertible m (Some i) (cond b None (replace_prefix p (map_source m i) (map_target m i))))
      blocked true w = no_pair m i
      blocked false w = w

  pub fast_translated : translate_fast m p ≡ checked_option (require_invertible m (match_source m p) (map_source_to_target m p))
  unfolding translate_fast map_source_to_target
  fast_translated = translate_by (match_source m p) refl
