-- Lemmas about prefix replacement.
use Rattle.std.specs.Prelude.{Option, Some, None}
use mathlib.Core.Path.{◌≡◌, refl, sym, ap, ◌∙◌}
use mathlib.Core.Bool.{Bool, true, false}
use mathlib.Core.List.{◌++◌}
use lib.ListN.{length, drop}
use Rattle.text.specs.Text.{Text, strip_prefix}
use Rattle.text.proofs.TextLaws.{no_text, after_down}
use Rattle.path_prefix.specs.Prefix.{can_follow, can_follow_some, has_prefix}
use Rattle.path_join.specs.Join.{join, replace_prefix}
use Rattle.path_prefix.proofs.PrefixLaws.{prefix_rest}

-- If the path has the prefix, the result is the joined text.
pub replace_made : (s t r : Text) → can_follow s r ≡ true → replace_prefix (s ++ r) s t ≡ Some (join s t r)
unfolding replace_prefix
replace_made s t r f = rw (after_down s r, f)

pub replace_prefix_lem : (p s t : Text) → has_prefix p s ≡ true → replace_prefix p s t ≡ Some (join s t (drop (length s) p))
replace_prefix_lem p s t h = go (drop (length s) p) (prefix_rest p s h).0 (prefix_rest p s h).1
  where
    go : (r : Text) → p ≡ s ++ r → can_follow s r ≡ true → replace_prefix p s t ≡ Some (join s t r)
    go r e f = rw e (replace_made s t r f)

-- If the path does not have the prefix, there is no result.
pub replace_other : (p s t : Text) → has_prefix p s ≡ false → replace_prefix p s t ≡ None
unfolding has_prefix replace_prefix
replace_other p s t h = go (strip_prefix s p) refl
  where
    go : (o : Option Text) → strip_prefix s p ≡ o → replace_prefix p s t ≡ None
    go None e = rw e
    go (Some r) e = let k : can_follow s r ≡ false = sym (ap (can_follow_some s) e) ∙ h in rw (e, k)

-- If there is a result, the path has the prefix.
pub replaced_prefix : (p s t q : Text) → replace_prefix p s t ≡ Some q → has_prefix p s ≡ true
replaced_prefix p s t q e = go (has_prefix p s) refl
  where
    go : (b : Bool) → has_prefix p s ≡ b → has_prefix p s ≡ true
    go true h = h
    go false h = absurd (no_text (sym (replace_other p s t h) ∙ e))
