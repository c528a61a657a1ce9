-- Lemmas for the branches of `translate_by_mark`, `translate_by_pair` and `translate_text`.
use Rattle.std.specs.Prelude.{Option, Some, None}
use mathlib.Core.Path.{◌≡◌, refl, sym, ◌∙◌}
use mathlib.Core.Logic.{◌≢◌}
use mathlib.Core.Bool.{Bool, true, false, not, cond, false≢true}
use Rattle.std.specs.Option.{is_some}
use mathlib.Core.List.{List}
use Prim.Native.Nat.{ℕ}
use native.Mathlib.Omega.{arith}
use lib.ListN.{length, take, drop}
use borrow.Author.Tests.{le-leb, lt-leb}
use Rattle.text.specs.Text.{Text, is_nil, written_if_fits, fit_of}
use Rattle.text.proofs.BoolLaws.{and_no, not_true, not_false}
use Rattle.text.proofs.WriteLaws.{fit_room, fit_over, fit_back}
use Rattle.path_join.specs.Join.{join, join_illegal}
use Rattle.pair_list.specs.Places.{key_at}
use Rattle.pair_list.specs.LongestMatch.{longest_match}
use Rattle.map_lookup.specs.LookupStep.{is_index}
use Rattle.refusal.specs.declared.Refusal.TheVariants.{NoPath, MadeTooLong}
use Rattle.refusal.specs.Outcome.{refused}
use Rattle.map_spec.specs.Map.{lent_map, Map, match_source, match_target, eq_index}
use Rattle.path_rest.specs.Rest.{rest_index}
use Rattle.map_rest.specs.MapRest.{source_rest}
use Rattle.map_apply.proofs.MapBranches.{rest_none, rest_found}
use Rattle.map_apply.specs.Fast.{plain_rest, checked_join, join_checked, keep_path, translate_by_mark, translate_by_pair, translate_fast_by, translate_fast}
use Rattle.map_spec.proofs.LentLaws.{out_keys, home_keys, ends_by}
use Rattle.text.proofs.TextLaws.{nil_length, nil_not}

module _ (store : Text) (places : List ℕ) (n : ℕ) (mark : Bool) (p : Text) where
  abbrev lent : Map
  lent = lent_map store places n mark

  -- Lemmas for `translate_by_mark`.
  pub marked_none : not mark ≡ true → translate_by_mark lent p ≡ refused NoPath
  unfolding translate_by_mark
  marked_none k = rw (not_true mark k)

  module _ (f : Option ℕ) (h : f ≡ longest_match p (key_at store places true) n) where
    home_is : f ≡ match_target lent p
    home_is = rw (home_keys store places n mark p) h

    pub marked_shadowed : is_some f ≡ true → translate_by_mark lent p ≡ refused NoPath
    unfolding translate_by_mark
    marked_shadowed k = go f home_is k
      where
        go : (o : Option ℕ) → o ≡ match_target lent p → is_some o ≡ true → translate_by_mark lent p ≡ refused NoPath
        go (Some j) e l = rw (sym e, and_no mark)
        go None e l = absurd (false≢true l)

    pub marked_kept : not mark ≡ false → is_some f ≡ false → translate_by_mark lent p ≡ keep_path mark p
    unfolding translate_by_mark
    marked_kept k l = go f home_is l
      where
        go : (o : Option ℕ) → o ≡ match_target lent p → is_some o ≡ false → translate_by_mark lent p ≡ keep_path mark p
        go None e m = rw (sym e, not_false mark k)
        go (Some j) e m = absurd (false≢true (sym m))

  -- Lemmas for `translate_text`.
  module _ (f : Option ℕ) (h : f ≡ longest_match p (key_at store places false) n) where
    out_is : f ≡ match_source lent p
    out_is = rw (out_keys store places n mark p) h

    pub text_none : f ≡ None → translate_fast lent p ≡ translate_by_mark lent p
    unfolding translate_fast translate_fast_by
    text_none k = rw (sym out_is ∙ k)

    pub source_none : f ≡ None → source_rest lent p ≡ Some 0
    unfolding plain_rest
    source_none k = rest_none store places n mark p false f h k

    module _ (idx : ℕ) (k : f ≡ Some idx) where
      pub source_found : (s : Text) (j : ℕ) → s ≡ key_at store places false idx → j ≡ rest_index p s → source_rest lent p ≡ Some j
      unfolding plain_rest
      source_found s j e i = rest_found store places n mark p false f h idx k s j e i

      chosen : longest_match p (key_at store places false) n ≡ Some idx
      chosen = sym h ∙ k

      by_pair : translate_fast lent p
          ≡ cond (is_nil (key_at store places true idx)) (refused NoPath)
          (translate_by_pair lent idx (key_at store places false idx) (key_at store places true idx) (drop (length (key_at store places false idx)) p))
      unfolding translate_fast translate_fast_by
      by_pair =
          let e = ends_by store places n mark p false idx chosen in
          rw (sym out_is ∙ k, e.0, e.1)

      pub text_block : (t : Text) → t ≡ key_at store places true idx → length t ≡ 0 → translate_fast lent p ≡ refused NoPath
      text_block t e l = by_pair ∙ rw (← e, nil_length t l)

      pub text_pair : (s t : Text) → t ≡ key_at store places true idx → length t ≢ 0 → s ≡ key_at store places false idx
          → translate_fast lent p ≡ translate_by_pair lent idx s t (drop (length s) p)
      text_pair s t e l es = by_pair ∙ rw (← e, ← es, nil_not t l)

same_at : (i : ℕ) (o : Option ℕ) → eq_index (Some i) o ≡ is_index i o
same_at i None = refl
same_at i (Some j) = refl

-- Lemmas for `translate_by_pair`; the joined text is built in a scratch buffer of 512 bytes.
module _ (store : Text) (places : List ℕ) (n : ℕ) (mark : Bool) (i : ℕ) (s t r : Text) (buf : Text) (f : Option ℕ) (h : f ≡ fit_of (join s t r) buf) (l : length buf ≡ 512) where
  abbrev lent_one : Map
  lent_one = lent_map store places n mark

  pub pair_over : f ≡ None → translate_by_pair lent_one i s t r ≡ refused MadeTooLong
  unfolding translate_by_pair
  pair_over e = rw (lt-leb (length (join s t r)) 512 (omega (arith, fit_over (join s t r) buf (sym h ∙ e))))

  module _ (k : ℕ) (e : f ≡ Some k) (mem : Text) (m : mem ≡ written_if_fits 0 (join s t r) buf) (g : Bool) (o : g ≡ is_index i (longest_match (take k mem) (key_at store places true) n)) where
    fits_512 : translate_by_pair lent_one i s t r ≡ cond (eq_index (Some i) (match_target lent_one (join s t r))) (join_checked s t r) (refused NoPath)
    unfolding translate_by_pair
    fits_512 = rw (le-leb (length (join s t r)) 512 (omega (arith, fit_room (join s t r) buf k (sym h ∙ e))))

    back_is : eq_index (Some i) (match_target lent_one (join s t r)) ≡ g
    back_is = same_at i (match_target lent_one (join s t r)) ∙ rw (home_keys store places n mark (join s t r), ← (fit_back (join s t r) buf f h k e mem m)) (sym o)

    pub pair_other : not g ≡ true → translate_by_pair lent_one i s t r ≡ refused NoPath
    pair_other q = fits_512 ∙ rw (back_is, not_true g q)

    pub pair_same : (b : Bool) → not g ≡ false → b ≡ join_illegal t r → translate_by_pair lent_one i s t r ≡ checked_join b (take k mem)
    unfolding join_checked
    pair_same b q z = rw (fit_back (join s t r) buf f h k e mem m, z) (fits_512 ∙ rw (back_is, not_false g q))
