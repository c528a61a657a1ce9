-- The rest of an accepted mapping is the end of the path given and of the path made (`RestUnaltered`). The idea: the joined text is the new prefix
-- followed by the rest, because an accepted path has no property or selection directly after `/`.
use Rattle.std.specs.Prelude.{Option, Some, None}
use Rattle.std.proofs.lemmas.Option.{none-some}
use mathlib.Core.Path.{◌≡◌, refl, sym, ◌∙◌}
use mathlib.Core.Bool.{Bool, true, false, ◌||◌, true≢false}
use mathlib.Core.List.{[], ◌∷◌, ◌++◌}
use Prim.Native.Nat.{ℕ}
use lib.Dec.{eqb}
use lib.ListN.{length, drop}
use lib.Seq.{drop-append_seam}
use borrow.Author.Tests.{eqb-true}
use Rattle.text.specs.Text.{Text, is_nil, ends_with_byte}
use Rattle.text.proofs.TextLaws.{no_text}
use Rattle.text.proofs.BoolLaws.{and_yes, or_false, not_true}
use Rattle.path_grammar.specs.Own.{has_variant_selection}
use Rattle.path_grammar.specs.Legal.{is_root, legal, is_end}
use Rattle.path_grammar.proofs.LegalLaws.{absolute_first, end_close, root_is}
use Rattle.path_prefix.specs.Prefix.{can_follow, has_prefix}
use Rattle.path_prefix.proofs.PrefixLaws.{prefix_rest}
use Rattle.path_join.specs.Join.{join, replace_prefix, starts_suffix, join_illegal}
use Rattle.path_join.proofs.JoinLegal.{join_legal}
use Rattle.path_join.proofs.ReplaceLaws.{replace_prefix_lem, replaced_prefix}
use Rattle.path_join.proofs.JoinLaws.{stem, stem_root, stem_not, join_none, join_root, join_slash, join_other}
use Rattle.path_rest.specs.Rest.{rest_index, rest_start, rest_text, followed_by}
use Rattle.path_parts.specs.Strip.{strip}
use Rattle.path_parts.proofs.StripLaws.{strip_same}
use Rattle.pair_list.specs.Pair.{all_ends}
use Rattle.pair_list.specs.LongestMatch.{matches, longest_match}
use Rattle.pair_list.proofs.LongestMatchLaws.{chosen_best}
use Rattle.map_spec.specs.Map.{Map, map_source, map_target, map_size, match_source, match_target, map_by, map_source_to_target, map_target_to_source, translate_to_target}
use Rattle.map_spec.proofs.EndLaws.{ends_source, ends_target}
use Rattle.map_spec.proofs.LegLaws.{matches_full, invertible_some}
use Rattle.map_rest.specs.MapRest.{rest_by, source_rest, target_rest, translated_rest, RestUnaltered, SourceRestUnaltered, TargetRestUnaltered, TranslatedRestUnaltered}
use Rattle.path_rest.proofs.RestLaws.{rest_from, rest_plain, rest_below_root, rest_of_itself, followed_none, followed_plain, followed_root, followed_ends, prefix_and_rest}

-- A rest that begins with a slash follows `/` as it is, and any other end after that end.
followed_stem : (t r : Text) → followed_by t (47 ∷ r) ≡ stem t ++ 47 ∷ r
followed_stem t r = go (is_root t) refl
  where
    go : (b : Bool) → is_root t ≡ b → followed_by t (47 ∷ r) ≡ stem t ++ 47 ∷ r
    go true h = followed_root t 47 r h ∙ sym (rw (root_is t h) (stem_root (47 ∷ r)))
    go false h = followed_plain t (47 ∷ r) h ∙ sym (stem_not t (47 ∷ r) h)

-- After an old prefix other than `/`: such a remainder begins with a slash, `.` or `{`, and in the last two cases the new prefix is not `/`, since
-- the path made is legal.
suffix_follows : (s : Text) (a : ℕ) (r : Text) → is_end s ≡ true → is_root s ≡ false → eqb a 47 ≡ false → can_follow s (a ∷ r) ≡ true
    → starts_suffix (a ∷ r) ≡ true
unfolding can_follow starts_suffix
suffix_follows s a r es h e f = rw (h, e, end_close s es, or_false (eqb a 46 || eqb a 123)) at f

not_root : (t : Text) → (is_nil t || is_root t) ≡ false → is_root t ≡ false
not_root [] h = refl
not_root (a ∷ r) h = h

no_root_before_suffix : (t r : Text) → join_illegal t r ≡ false → starts_suffix r ≡ true → is_root t ≡ false
unfolding join_illegal
no_root_before_suffix t r j x = not_root t (rw (x, and_yes (is_nil t || is_root t)) at j)

after_end : (s t r : Text) → is_end s ≡ true → is_end t ≡ true → is_root s ≡ false → can_follow s r ≡ true → join_illegal t r ≡ false
    → join s t r ≡ followed_by t r
after_end s t [] es et h f j = join_none s t ∙ sym (followed_none t)
after_end s t (a ∷ r) es et h f j = go (eqb a 47) refl
  where
    go : (b : Bool) → eqb a 47 ≡ b → join s t (a ∷ r) ≡ followed_by t (a ∷ r)
    go true e = rw (eqb-true a 47 e) (join_slash s t r h (end_close t et) ∙ sym (followed_stem t r))
    go false e =
        let k : is_root t ≡ false = no_root_before_suffix t (a ∷ r) j (suffix_follows s a r es h e f) in
        join_other s t a r h (end_close s es) e ∙ sym (followed_plain t (a ∷ r) k)

-- After the old prefix `/` the rest is the whole path, or empty for `/` itself.
below_root_lem : (t r : Text) → join (47 ∷ []) t r ≡ followed_by t (rest_text (47 ∷ r) (Some (rest_index (47 ∷ r) (47 ∷ []))))
below_root_lem t [] = rw (rest_of_itself (47 ∷ [])) (join_none (47 ∷ []) t ∙ sym (followed_none t))
below_root_lem t (a ∷ r) = rw (rest_below_root (47 ∷ a ∷ r) (47 ∷ []) refl refl) (join_root t a r ∙ sym (followed_stem t (a ∷ r)))

-- So the joined text of ends is the new end followed by the rest, if the path given and the path made are legal.
module _ (s t r : Text) (ns : is_nil s ≡ false) (es : is_end s ≡ true) (et : is_end t ≡ true) (lp : legal (s ++ r) ≡ true) (f : can_follow s r ≡ true) where
  joined_rest : legal (join s t r) ≡ true → join s t r ≡ followed_by t (rest_text (s ++ r) (Some (rest_index (s ++ r) s)))
  joined_rest lq = go (is_root s) refl
    where
      j : join_illegal t r ≡ false
      j = not_true (join_illegal t r) (sym (join_legal s t r lp es ns et f) ∙ lq)

      go : (b : Bool) → is_root s ≡ b → join s t r ≡ followed_by t (rest_text (s ++ r) (Some (rest_index (s ++ r) s)))
      go true k = rw (root_is s k) (below_root_lem t r)
      go false k = rw (rest_plain (s ++ r) s k, drop-append_seam s r) (after_end s t r es et k f j)

-- What follows an end in a legal path is joined to it as after the empty prefix.
followed_join : (t r : Text) → is_end t ≡ true → legal (followed_by t r) ≡ true → followed_by t r ≡ join [] t r
unfolding ends_with_byte
followed_join t [] et lq = followed_none t ∙ sym (join_none [] t)
followed_join t (a ∷ r) et lq = go (eqb a 47) (is_root t) refl refl
  where
    go : (b c : Bool) → eqb a 47 ≡ b → is_root t ≡ c → followed_by t (a ∷ r) ≡ join [] t (a ∷ r)
    go true c e k = rw (eqb-true a 47 e) (followed_stem t r ∙ sym (join_slash [] t r refl (end_close t et)))
    go false false e k = followed_plain t (a ∷ r) k ∙ sym (join_other [] t a r refl refl e)
    go false true e k = absurd (true≢false (sym (absolute_first a r (rw (followed_root t a r k) at lq)) ∙ e))

-- The path p is mapped to q by the pair of s and t.
module _ (s t p q : Text) (ns : is_nil s ≡ false) (es : is_end s ≡ true) (et : is_end t ≡ true) (lp : legal p ≡ true) (lq : legal q ≡ true) (e : replace_prefix p s t ≡ Some q) where
  h : has_prefix p s ≡ true
  h = replaced_prefix p s t q e

  given_by_pair : p ≡ followed_by s (rest_text p (rest_start p s))
  given_by_pair = prefix_and_rest p s h

  made_by_pair : q ≡ followed_by t (rest_text p (rest_start p s))
  made_by_pair =
      let whole : p ≡ s ++ drop (length s) p = (prefix_rest p s h).0 in
      let found : Some (join s t (drop (length s) p)) ≡ Some q = sym (replace_prefix_lem p s t h) ∙ e in
      let is : join s t (drop (length s) p) ≡ q = cc in
      let made = joined_rest s t (drop (length s) p) ns es et (rw whole at lp) (prefix_rest p s h).1 (rw is lq) in
      rw (rest_from p s h) (sym is ∙ rw (← whole) at made)

-- Plain mapping, with the ends a as keys and the ends b in their place.
module _ (m : Map) (a b : ℕ → Text) (p q : Text) (ea : (i : ℕ) → is_end (a i) ≡ true) (eb : (i : ℕ) → is_end (b i) ≡ true) (lp : legal p ≡ true) (lq : legal q ≡ true) where
  rest_unaltered : (o : Option ℕ) → ((i : ℕ) → o ≡ Some i → is_nil (a i) ≡ false) → map_by m a b p o ≡ Some q
      → RestUnaltered a b o p q (rest_text p (rest_by a p o))
  unfolding rest_by rest_text
  rest_unaltered None n e = go m.mark refl
    where
      go : (c : Bool) → m.mark ≡ c → RestUnaltered a b None p q p
      go true k =
          let found : Some p ≡ Some q = rw k at e in
          let same : p ≡ q = cc in
          record {
            by_mark = λ x. (refl, sym same);
            given = λ i x. absurd (none-some i x);
            made = λ i x. absurd (none-some i x);
            joined = λ i x. absurd (none-some i x);
            ends_given = ([], refl);
            ends_made = ([], sym same);
          }
      go false k = absurd (no_text (rw k at e))
  rest_unaltered (Some j) n e = go (is_nil (map_target m j)) refl
    where
      rest : Text
      rest = rest_text p (rest_start p (a j))

      go : (c : Bool) → is_nil (map_target m j) ≡ c → RestUnaltered a b (Some j) p q rest
      go true k = absurd (no_text (rw k at e))
      go false k =
          let replaced : replace_prefix p (a j) (b j) ≡ Some q = rw k at e in
          let given : p ≡ followed_by (a j) rest = given_by_pair (a j) (b j) p q (n j refl) (ea j) (eb j) lp lq replaced in
          let made : q ≡ followed_by (b j) rest = made_by_pair (a j) (b j) p q (n j refl) (ea j) (eb j) lp lq replaced in
          record {
            by_mark = λ x. absurd (none-some j (sym x));
            given = λ i x. let same : j ≡ i = cc in rw (← same) given;
            made = λ i x. let same : j ≡ i = cc in rw (← same) made;
            joined = λ i x. let same : j ≡ i = cc in rw (← same) (made ∙ followed_join (b j) rest (eb j) (rw made at lq));
            ends_given = rw (← given) at (followed_ends (a j) rest);
            ends_made = rw (← made) at (followed_ends (b j) rest);
          }

-- The keys are ends, and the one that is selected is not empty.
module _ (m : Map) (p q : Text) (em : all_ends m.pairs ≡ true) (lp : legal p ≡ true) where
  selected_key : (key : ℕ → Text) (n i : ℕ) → longest_match p key n ≡ Some i → is_nil (key i) ≡ false
  unfolding longest_match
  selected_key key n i e = matches_full p (key i) (chosen_best (matches p) key n i e).does_pass

  pub source_rest_lem : map_source_to_target m p ≡ Some q → legal q ≡ true
      → RestUnaltered (map_source m) (map_target m) (match_source m p) p q (rest_text p (source_rest m p))
  unfolding map_source_to_target source_rest match_source
  source_rest_lem e lq =
      rest_unaltered m (map_source m) (map_target m) p q (ends_source m.pairs em) (ends_target m.pairs em) lp lq (match_source m p)
      (selected_key (map_source m) (map_size m)) e

  pub target_rest_lem : map_target_to_source m p ≡ Some q → legal q ≡ true
      → RestUnaltered (map_target m) (map_source m) (match_target m p) p q (rest_text p (target_rest m p))
  unfolding map_target_to_source target_rest match_target
  target_rest_lem e lq =
      rest_unaltered m (map_target m) (map_source m) p q (ends_target m.pairs em) (ends_source m.pairs em) lp lq (match_target m p)
      (selected_key (map_target m) (map_size m)) e

  pub translated_rest_lem : has_variant_selection p ≡ false → translate_to_target m p ≡ Some q → legal q ≡ true
      → RestUnaltered (map_source m) (map_target m) (match_source m p) p q (rest_text p (translated_rest m p))
  unfolding translate_to_target translated_rest
  translated_rest_lem f e lq =
      let mapped : map_source_to_target m p ≡ Some q = rw (strip_same p f) at (invertible_some m (match_source m (strip p)) (map_source_to_target m (strip p)) q e).0 in
      rw f (source_rest_lem mapped lq)

pub source_rest_unaltered : SourceRestUnaltered
source_rest_unaltered m p q em lp = source_rest_lem m p q em lp

pub target_rest_unaltered : TargetRestUnaltered
target_rest_unaltered m p q em lp = target_rest_lem m p q em lp

pub translated_rest_unaltered : TranslatedRestUnaltered
translated_rest_unaltered m p q em lp = translated_rest_lem m p q em lp
