-- Lemmas about composed ends: composing prim paths, `/` and empty ends yields only such ends, so nothing illegal is made.
use Rattle.std.specs.Prelude.{Option, Some, None}
use mathlib.Core.Path.{◌≡◌, refl, sym, ap, ◌∙◌}
use mathlib.Core.Bool.{Bool, true, false, not, cond, ◌&&◌, ◌||◌}
use mathlib.Core.List.{List, [], ◌∷◌, ◌++◌}
use Prim.Native.Nat.{ℕ}
use lib.ListN.{length, drop}
use Rattle.text.specs.Text.{Text, is_nil, lacks_byte}
use Rattle.text.proofs.BoolLaws.{and_l, and_r, and_no, not_true}
use Rattle.text.proofs.TextLaws.{no_text, lacks_first, lacks_after}
use Rattle.path_grammar.specs.Legal.{is_root, legal, is_end}
use Rattle.path_grammar.proofs.LegalLaws.{end_scan, end_legal, end_lacks, end_undotted}
use Rattle.path_prefix.specs.Prefix.{has_prefix, can_follow}
use Rattle.path_join.specs.Join.{join, replace_prefix, starts_suffix, join_illegal}
use Rattle.path_prefix.proofs.PrefixLaws.{prefix_rest}
use Rattle.path_join.proofs.ReplaceLaws.{replace_prefix_lem}
use Rattle.path_join.proofs.TailLaws.{join_lacks}
use Rattle.path_join.proofs.JoinLegal.{join_legal}
use Rattle.pair_list.specs.Pair.{Pair, every_end, all_ends}
use Rattle.pair_list.specs.LongestMatch.{longest_match, matches}
use Rattle.pair_list.proofs.LongestMatchLaws.{chosen_best}
use Rattle.map_spec.specs.Map.{Map, map_source, map_target, map_size, map_by, match_source, match_target, map_source_to_target, map_target_to_source}
use Rattle.map_spec.proofs.EndLaws.{ends_source, ends_target}
use Rattle.map_compose.specs.Calls.{ComposedEnds}
use Rattle.compose_pairs.proofs.EveryLaws.{composed_every}

-- The remainder after a prefix of an end begins with no property and no selection.
no_suffix : (r : Text) → lacks_byte 123 r ≡ true → lacks_byte 46 r ≡ true → starts_suffix r ≡ false
unfolding starts_suffix
no_suffix [] e f = refl
no_suffix (a ∷ r) e f = rw (lacks_first 46 a r f, lacks_first 123 a r e)

-- The join of ends is an end.
join_end : (s t r : Text) → is_end (s ++ r) ≡ true → is_end s ≡ true → is_nil s ≡ false → is_end t ≡ true → can_follow s r ≡ true → is_end (join s t r) ≡ true
unfolding join_illegal
join_end s t r ep es ns et f =
    let e : lacks_byte 123 r ≡ true = lacks_after 123 s r (end_lacks (s ++ r) ep) in
    let g : lacks_byte 46 r ≡ true = lacks_after 46 s r (end_undotted (s ++ r) ep) in
    let l : legal (join s t r) ≡ true
    = join_legal s t r (end_legal (s ++ r) ep) es ns et f ∙ ap not (ap (λ (b : Bool). (is_nil t || is_root t) && b) (no_suffix r e g) ∙ and_no (is_nil t || is_root t)) in
    rw (end_scan (join s t r), l, join_lacks 123 refl s t r (end_lacks t et), e, join_lacks 46 refl s t r (end_undotted t et), g)

replaced_end : (p s t q : Text) → is_end p ≡ true → is_end s ≡ true → is_nil s ≡ false → is_end t ≡ true → has_prefix p s ≡ true → replace_prefix p s t ≡ Some q
    → is_end q ≡ true
replaced_end p s t q ep es ns et h e =
    let w = prefix_rest p s h in
    let z : q ≡ join s t (drop (length s) p) = let y : Some q ≡ Some (join s t (drop (length s) p)) = sym e ∙ replace_prefix_lem p s t h in cc in
    rw z (join_end s t (drop (length s) p) (rw w.0 at ep) es ns et w.1)

served : (p : Text) (key : ℕ → Text) (n i : ℕ) → longest_match p key n ≡ Some i → (not (is_nil (key i)) && has_prefix p (key i)) ≡ true
unfolding longest_match matches
served p key n i e = (chosen_best (matches p) key n i e).does_pass

-- Plain mapping of an end through pairs of ends yields an end.
by_end : (m : Map) (a b : ℕ → Text) (p q : Text) (n : ℕ) (o : Option ℕ) → longest_match p a n ≡ o → ((i : ℕ) → is_end (a i) ≡ true) → ((i : ℕ) → is_end (b i) ≡ true)
    → is_end p ≡ true → map_by m a b p o ≡ Some q → is_end q ≡ true
by_end m a b p q n None c ea eb ep e = go m.mark e
  where
    go : (t : Bool) → cond t (Some p) None ≡ Some q → is_end q ≡ true
    go true e = let z : p ≡ q = cc in rw z at ep
    go false e = absurd (no_text e)
by_end m a b p q n (Some i) c ea eb ep e = go (is_nil (map_target m i)) e
  where
    passes : (not (is_nil (a i)) && has_prefix p (a i)) ≡ true
    passes = served p a n i c

    go : (t : Bool) → cond t None (replace_prefix p (a i) (b i)) ≡ Some q → is_end q ≡ true
    go true e = absurd (no_text e)
    go false e =
        replaced_end p (a i) (b i) q ep (ea i) (not_true (is_nil (a i)) (and_l (not (is_nil (a i))) (has_prefix p (a i)) passes)) (eb i)
        (and_r (not (is_nil (a i))) (has_prefix p (a i)) passes) e

out_end : (m : Map) → all_ends m.pairs ≡ true → (p q : Text) → is_end p ≡ true → map_source_to_target m p ≡ Some q → is_end q ≡ true
unfolding map_source_to_target match_source
out_end m em p q ep e = by_end m (map_source m) (map_target m) p q (map_size m) (match_source m p) refl (ends_source m.pairs em) (ends_target m.pairs em) ep e

home_end : (m : Map) → all_ends m.pairs ≡ true → (p q : Text) → is_end p ≡ true → map_target_to_source m p ≡ Some q → is_end q ≡ true
unfolding map_target_to_source match_target
home_end m em p q ep e = by_end m (map_target m) (map_source m) p q (map_size m) (match_target m p) refl (ends_target m.pairs em) (ends_source m.pairs em) ep e

no_end : is_end [] ≡ true
unfolding is_end
no_end = refl

pub composed_ends : ComposedEnds
unfolding all_ends
composed_ends outer inner eo ei =
    composed_every is_end is_end (λ t e. e) no_end outer inner (λ t q e. out_end outer eo t q e) (λ s q e. home_end inner ei s q e) eo ei

-- Ends are legal.
pub ends_legal : (l : List Pair) → all_ends l ≡ true → every_end legal l ≡ true
unfolding all_ends every_end
ends_legal [] e = refl
ends_legal (x ∷ l) e =
    let s : is_end x.source ≡ true = search (and_l, and_r) in
    let t : is_end x.target ≡ true = search (and_l, and_r) in
    rw (end_legal x.source s, end_legal x.target t) (ends_legal l (search (and_l, and_r)))
