-- Lemmas about prefixes.
use Rattle.std.specs.Prelude.{Option, Some, None}
use Rattle.std.specs.Option.{is_some}
use mathlib.Core.Path.{◌≡◌, refl, sym, ap, ◌∙◌}
use mathlib.Core.Bool.{true, ◌||◌, false≢true}
use mathlib.Core.List.{[], ◌∷◌, ◌++◌, append-nil}
use Prim.Native.Nat.{ℕ, ◌≤◌}
use lib.Dec.{eqb}
use lib.ListN.{length, drop}
use lib.Seq.{drop-append_seam}
use Rattle.text.specs.Text.{Text, strip_prefix, starts_with}
use Rattle.text.proofs.BoolLaws.{or_false}
use Rattle.text.proofs.TextLaws.{after_up, after_down, starts_long}
use Rattle.path_grammar.specs.Legal.{legal}
use Rattle.path_grammar.proofs.LegalLaws.{absolute_first}
use Rattle.path_prefix.specs.Prefix.{can_follow, can_follow_some, has_prefix}

-- The text s ++ r has the prefix s exactly if r may follow s.
pub prefix_made : (s r : Text) → has_prefix (s ++ r) s ≡ can_follow s r
unfolding has_prefix
prefix_made s r = rw (after_down s r)

-- A text with the prefix s is s and a remainder that may follow it.
pub prefix_rest : (p s : Text) → has_prefix p s ≡ true → (p ≡ s ++ drop (length s) p) × (can_follow s (drop (length s) p) ≡ true)
unfolding has_prefix
prefix_rest p s h = go (strip_prefix s p) refl
  where
    go : (o : Option Text) → strip_prefix s p ≡ o → (p ≡ s ++ drop (length s) p) × (can_follow s (drop (length s) p) ≡ true)
    go None e = absurd (false≢true (sym (ap (can_follow_some s) e) ∙ h))
    go (Some r) e =
        let k : drop (length s) p ≡ r = rw (after_up s p r e) (drop-append_seam s r) in
        rw k (after_up s p r e, sym (ap (can_follow_some s) e) ∙ h)

-- A text is a prefix of itself.
pub prefix_self : (p : Text) → has_prefix p p ≡ true
unfolding can_follow
prefix_self p = rw append-nil at (prefix_made p [])

-- The empty text is a prefix of the texts that begin with `/`, `.` or `{`.
pub prefix_empty : (a : ℕ) (r : Text) → has_prefix (a ∷ r) [] ≡ (eqb a 47 || eqb a 46 || eqb a 123)
unfolding has_prefix
prefix_empty a r = or_false (eqb a 47 || eqb a 46 || eqb a 123)

-- So the empty text is a prefix of every legal text.
pub legal_prefix_empty : (p : Text) → legal p ≡ true → has_prefix p [] ≡ true
legal_prefix_empty [] l = prefix_self []
legal_prefix_empty (a ∷ r) l = rw (prefix_empty a r, absolute_first a r l)

-- A text begins with each of its prefixes.
pub prefix_starts : (p s : Text) → has_prefix p s ≡ true → starts_with s p ≡ true
unfolding starts_with
prefix_starts p s h = rw (prefix_rest p s h).0 (ap is_some (after_down s (drop (length s) p)))

-- A text is at least as long as each of its prefixes.
pub prefix_long : (p s : Text) → has_prefix p s ≡ true → length s ≤ length p
prefix_long p s h = starts_long s p (prefix_starts p s h)
