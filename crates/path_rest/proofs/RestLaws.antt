-- Laws of the rest. A path is its prefix followed by the rest (`PrefixAndRest`), and what follows a text is the end of the whole.
use Rattle.std.specs.Prelude.{Some}
use mathlib.Core.Path.{◌≡◌, refl, sym, ap, ◌∙◌}
use mathlib.Core.Bool.{Bool, true, false, not, cond, ◌&&◌}
use mathlib.Core.List.{[], ◌∷◌, ◌++◌, append-nil}
use Prim.Native.Nat.{ℕ, ◌≤◌}
use native.Mathlib.Nat.{not-suc-le-zero}
use lib.ListN.{length, drop}
use lib.Seq.{drop-length}
use Rattle.text.specs.Text.{Text, is_nil}
use Rattle.text.proofs.BoolLaws.{and_no}
use Rattle.path_grammar.specs.Legal.{is_root}
use Rattle.path_grammar.proofs.LegalLaws.{root_is}
use Rattle.path_prefix.specs.Prefix.{has_prefix}
use Rattle.path_prefix.proofs.PrefixLaws.{prefix_rest, prefix_long}
use Rattle.path_rest.specs.Rest.{rest_index, rest_start, rest_text, RestExamples, followed_by, PrefixAndRest, EndsWith}

-- If s is a prefix of p, the rest begins at the index of the definition.
pub rest_from : (p s : Text) → has_prefix p s ≡ true → rest_start p s ≡ Some (rest_index p s)
unfolding rest_start
rest_from p s h = rw h

-- The rest of the path p after s, unless s is `/`: the text after as many bytes as s has.
pub rest_plain : (p s : Text) → is_root s ≡ false → rest_text p (Some (rest_index p s)) ≡ drop (length s) p
unfolding rest_text rest_index
rest_plain p s h = rw h

-- After `/` the rest of a longer text is the whole text.
pub rest_below_root : (p s : Text) → is_root s ≡ true → is_root p ≡ false → rest_text p (Some (rest_index p s)) ≡ p
unfolding rest_text rest_index
rest_below_root p s h k = rw (h, k)

-- The rest of a text after itself is empty.
pub rest_of_itself : (p : Text) → rest_text p (Some (rest_index p p)) ≡ []
unfolding rest_text rest_index
rest_of_itself p = rw (after (is_root p)) (drop-length p)
  where
    after : (b : Bool) → cond (b && not b) 0 (length p) ≡ length p
    after true = refl
    after false = refl

-- A text that follows another one, by its first byte.
pub followed_none : (s : Text) → followed_by s [] ≡ s
unfolding followed_by
followed_none s = rw (and_no (is_root s)) (append-nil s)

pub followed_plain : (s r : Text) → is_root s ≡ false → followed_by s r ≡ s ++ r
unfolding followed_by
followed_plain s r h = rw h

pub followed_root : (s : Text) (a : ℕ) (r : Text) → is_root s ≡ true → followed_by s (a ∷ r) ≡ a ∷ r
unfolding followed_by
followed_root s a r h = rw h

-- Both are ends of the whole.
pub followed_ends : (s r : Text) → EndsWith (followed_by s r) r
unfolding followed_by
followed_ends s r = go (is_root s && not (is_nil r))
  where
    go : (b : Bool) → EndsWith (cond b r (s ++ r)) r
    go true = ([], refl)
    go false = (s, refl)

pub prefix_and_rest : PrefixAndRest
prefix_and_rest p s h = rw (rest_from p s h) (go (is_root s) (is_root p) refl refl)
  where
    go : (b c : Bool) → is_root s ≡ b → is_root p ≡ c → p ≡ followed_by s (rest_text p (Some (rest_index p s)))
    go false c k l = rw (rest_plain p s k, followed_plain s (drop (length s) p) k) (prefix_rest p s h).0
    go true true k l = rw (root_is s k, root_is p l) (sym (ap (followed_by (47 ∷ [])) (rest_of_itself (47 ∷ [])) ∙ followed_none (47 ∷ [])))
    go true false k l = rw (rest_below_root p s k l) (sym (whole p (rw (root_is s k) at (prefix_long p s h))))
      where
        whole : (t : Text) → 1 ≤ length t → followed_by s t ≡ t
        whole [] n = absurd (not-suc-le-zero n)
        whole (a ∷ r) n = followed_root s a r k

pub rest_examples : RestExamples
unfolding rest_start rest_text
rest_examples = record {
  child = (refl, refl);
  property = (refl, refl);
  selection = (refl, refl);
  child_of_selection = (refl, refl);
  exact_match = (refl, refl);
  below_root = (refl, refl);
  root_itself = (refl, refl);
  empty_prefix = (refl, refl);
  longer_name = refl;
  longer_prefix = refl;
}
