-- The target part of a path as a plain tail: what replaces the prefix of the own part replaces that of the path and leaves the tail.
use Rattle.std.specs.Prelude.{Option, Some, None}
use mathlib.Core.Path.{◌≡◌, refl, sym, ap, ◌∙◌}
use mathlib.Core.Bool.{Bool, true, false, not, cond, ◌&&◌, true≢false}
use mathlib.Core.List.{[], ◌∷◌, ◌++◌, append-nil, append_assoc}
use Prim.Native.Nat.{ℕ, zero, suc}
use lib.Dec.{eqb}
use lib.ListN.{length, take, drop}
use lib.Seq.{take-nil}
use borrow.Author.Tests.{eqb-true}
use Rattle.text.specs.Text.{Text, strip_prefix, lacks_byte, take_until, drop_until}
use Rattle.text.proofs.BoolLaws.{not_true}
use Rattle.text.proofs.TextLaws.{after_up, lacks_append, lacks_first, lacks_rest}
use Rattle.path_grammar.specs.Own.{own_part, target_part}
use Rattle.path_grammar.specs.Legal.{is_root, legal, is_end}
use Rattle.path_grammar.proofs.OwnLaws.{own_parts, target_head, target_after, own_after, no_property, property_scan}
use Rattle.path_grammar.proofs.LegalLaws.{own_is, target_property, end_unbracketed, end_undotted}
use Rattle.path_prefix.specs.Prefix.{is_boundary, can_follow, can_follow_some, has_prefix}
use Rattle.path_prefix.proofs.PrefixLaws.{prefix_rest}
use Rattle.path_join.proofs.ReplaceLaws.{replace_prefix_lem, replaced_prefix}
use Rattle.path_join.specs.Join.{separator_len, separator, body, join, join_some, replace_prefix}
use Rattle.path_join.specs.Tail.{followed_by_target, ReplaceLeavesTarget, PrefixOfOwnPart}

-- A byte other than the slash is in the join if it is in the new prefix or in the remainder.
slash_lacks : (b : ℕ) → eqb 47 b ≡ false → (k : ℕ) → lacks_byte b (take k (47 ∷ [])) ≡ true
unfolding lacks_byte
slash_lacks b h zero = refl
slash_lacks b h (suc k) = rw (h, take-nil k)

body_lacks : (b : ℕ) → eqb 47 b ≡ false → (s r : Text) → lacks_byte b (body s r) ≡ lacks_byte b r
unfolding body lacks_byte
body_lacks b h s [] = refl
body_lacks b h s (a ∷ r) = go (not (is_root s)) (eqb a 47) refl
  where
    go : (c e : Bool) → eqb a 47 ≡ e → lacks_byte b (cond (c && e) r (a ∷ r)) ≡ lacks_byte b (a ∷ r)
    go true true k = rw (eqb-true a 47 k, h)
    go true false k = refl
    go false e k = refl

pub join_lacks : (b : ℕ) → eqb 47 b ≡ false → (s t r : Text) → lacks_byte b t ≡ true → lacks_byte b (join s t r) ≡ lacks_byte b r
unfolding join separator
join_lacks b h s t r e =
    rw (
      lacks_append b t (separator s t r ++ body s r),
      e,
      lacks_append b (separator s t r) (body s r),
      slash_lacks b h (separator_len s t r),
    )
    (body_lacks b h s r)

-- A join goes by the first byte of the remainder, so what follows that byte may be appended afterwards.
pub join_tail : (s t : Text) (a : ℕ) (x y : Text) → join s t (a ∷ (x ++ y)) ≡ join s t (a ∷ x) ++ y
unfolding join separator separator_len body
join_tail s t a x y = sym (append_assoc t (separator s t (a ∷ x) ++ body s (a ∷ x)) y ∙ ap (λ (z : Text). t ++ z) (append_assoc (separator s t (a ∷ x)) (body s (a ∷ x)) y ∙ ap (λ (z : Text). separator s t (a ∷ x) ++ z) (go (not (is_root s) && eqb a 47))))
  where
    go : (c : Bool) → cond c x (a ∷ x) ++ y ≡ cond c (x ++ y) (a ∷ (x ++ y))
    go true = refl
    go false = refl

-- A remainder that does not begin with a bracket.
module _ (a : ℕ) (r : Text) (h : eqb a 91 ≡ false) where
  pub own_cons : own_part (a ∷ r) ≡ a ∷ own_part r
  unfolding own_part take_until
  own_cons = rw h

  pub target_cons : target_part (a ∷ r) ≡ target_part r
  unfolding target_part drop_until
  target_cons = rw h

pub join_own : (s t : Text) (a : ℕ) (r : Text) → eqb a 91 ≡ false → join s t (a ∷ r) ≡ join s t (a ∷ own_part r) ++ target_part (a ∷ r)
join_own s t a r h =
    ap (λ (x : Text). join s t (a ∷ x)) (sym (own_parts r)) ∙ join_tail s t a (own_part r) (target_part r) ∙ ap (λ (x : Text). join s t (a ∷ own_part r) ++ x) (sym (target_cons a r h))

-- The remainder of a legal path after an end does not begin with a bracket, which a property precedes.
pub no_bracket : (s : Text) (a : ℕ) (r : Text) → is_end s ≡ true → legal (s ++ a ∷ r) ≡ true → eqb a 91 ≡ false
unfolding own_part target_part take_until drop_until
no_bracket s a r es l = go (eqb a 91) refl
  where
    us : lacks_byte 91 s ≡ true
    us = end_unbracketed s es

    go : (b : Bool) → eqb a 91 ≡ b → b ≡ false
    go true h =
        let t : target_part (s ++ a ∷ r) ≡ a ∷ r = target_after s (a ∷ r) us ∙ rw h in
        let o : own_part (s ++ a ∷ r) ≡ s = own_after s (a ∷ r) us ∙ rw h (append-nil s) in
        absurd (true≢false (sym (target_property (s ++ a ∷ r) l (rw t)) ∙ (no_property (s ++ a ∷ r)).1 (rw o (end_undotted s es))))
    go false h = refl

-- The option with a text appended to its value.
unfoldable pub appended : Text → Option Text → Option Text
appended y None = None
appended y (Some r) = Some (r ++ y)

-- A prefix without brackets ends before the first bracket, if there is one.
strip_before : (s o z : Text) → lacks_byte 91 s ≡ true → strip_prefix s (o ++ 91 ∷ z) ≡ appended (91 ∷ z) (strip_prefix s o)
unfolding strip_prefix appended
strip_before [] o z h = refl
strip_before (a ∷ s) [] z h = rw (lacks_first 91 a s h)
strip_before (a ∷ s) (b ∷ o) z h = go (eqb a b) (strip_before s o z (lacks_rest 91 a s h))
  where
    go : (c : Bool) → strip_prefix s (o ++ 91 ∷ z) ≡ appended (91 ∷ z) (strip_prefix s o)
        → cond c (strip_prefix s (o ++ 91 ∷ z)) None ≡ appended (91 ∷ z) (cond c (strip_prefix s o) None)
    go true ih = ih
    go false ih = refl

-- A byte other than the slash that neither prefix has is in the text made exactly if it was in the old one.
pub replaced_lacks : (b : ℕ) → eqb 47 b ≡ false → (o s t q : Text) → lacks_byte b s ≡ true → lacks_byte b t ≡ true → replace_prefix o s t ≡ Some q
    → lacks_byte b q ≡ lacks_byte b o
replaced_lacks b n o s t q hs ht e =
    let h : has_prefix o s ≡ true = replaced_prefix o s t q e in
    let r : Text = drop (length s) o in
    let made : join s t r ≡ q = let x : Some (join s t r) ≡ Some q = sym (replace_prefix_lem o s t h) ∙ e in cc in
    ap (lacks_byte b) (sym made) ∙ join_lacks b n s t r ht ∙ sym (ap (lacks_byte b) (prefix_rest o s h).0 ∙ rw (lacks_append b s r, hs))

-- A text o with a dot, a bracket after it, and an end s. The end has no dot, so it is not the text o: what follows it in o is not empty, and the
-- bracket has no influence on whether it may follow, or on the separator.
module _ (o z s : Text) (dotted : lacks_byte 46 o ≡ false) (es : is_end s ≡ true) where
  stripped : strip_prefix s (o ++ 91 ∷ z) ≡ appended (91 ∷ z) (strip_prefix s o)
  stripped = strip_before s o z (end_unbracketed s es)

  shorter : strip_prefix s o ≡ Some [] → ⊥
  shorter h = true≢false (sym (rw (after_up s o [] h ∙ append-nil s) (end_undotted s es)) ∙ dotted)

  pub prefix_before : has_prefix (o ++ 91 ∷ z) s ≡ has_prefix o s
  unfolding has_prefix can_follow appended
  prefix_before = rw stripped (go (strip_prefix s o) refl)
    where
      go : (x : Option Text) → strip_prefix s o ≡ x → can_follow_some s (appended (91 ∷ z) x) ≡ can_follow_some s x
      go None h = refl
      go (Some []) h = absurd (shorter h)
      go (Some (a ∷ r)) h = refl

  pub replace_before : (t : Text) → replace_prefix (o ++ 91 ∷ z) s t ≡ appended (91 ∷ z) (replace_prefix o s t)
  unfolding replace_prefix can_follow appended
  replace_before t = rw stripped (go (strip_prefix s o) refl)
    where
      kept : (b : Bool) (a : ℕ) (r : Text) → cond b (Some (join s t (a ∷ (r ++ 91 ∷ z)))) None ≡ appended (91 ∷ z) (cond b (Some (join s t (a ∷ r))) None)
      kept true a r = ap Some (join_tail s t a r (91 ∷ z))
      kept false a r = refl

      go : (x : Option Text) → strip_prefix s o ≡ x → join_some s t (appended (91 ∷ z) x) ≡ appended (91 ∷ z) (join_some s t x)
      go None h = refl
      go (Some []) h = absurd (shorter h)
      go (Some (a ∷ r)) h = kept (is_boundary s a) a r

-- A legal path with a target part is such a text.
module _ (p : Text) (l : legal p ≡ true) (a : ℕ) (z : Text) (e : target_part p ≡ a ∷ z) where
  pub own_has_dot : lacks_byte 46 (own_part p) ≡ false
  own_has_dot = not_true (lacks_byte 46 (own_part p)) (sym (property_scan p) ∙ target_property p l (rw e))

  pub path_whole : p ≡ own_part p ++ 91 ∷ z
  path_whole = sym (own_parts p) ∙ ap (λ (x : Text). own_part p ++ x) (e ∙ ap (λ (x : ℕ). x ∷ z) (target_head p a z e))

  pub appended_target : (o : Option Text) → appended (91 ∷ z) o ≡ followed_by_target p o
  unfolding appended followed_by_target
  appended_target None = refl
  appended_target (Some q) = ap (λ (x : Text). Some (q ++ x)) (ap (λ (x : ℕ). x ∷ z) (sym (target_head p a z e)) ∙ sym e)

-- Without a target part nothing follows.
pub with_none : (p : Text) → target_part p ≡ [] → (o : Option Text) → followed_by_target p o ≡ o
unfolding followed_by_target
with_none p e None = refl
with_none p e (Some q) = rw e (ap Some (append-nil q))

pub prefix_of_own_part : PrefixOfOwnPart
prefix_of_own_part p s l es = go (target_part p) refl
  where
    go : (t : Text) → target_part p ≡ t → has_prefix p s ≡ has_prefix (own_part p) s
    go [] e = rw (own_is p e)
    go (a ∷ z) e = ap (λ (x : Text). has_prefix x s) (path_whole p l a z e) ∙ prefix_before (own_part p) z s (own_has_dot p l a z e) es

-- What makes the same of a text with a dot, with and without a bracket after it, leaves the target part of every legal path.
pub leaves_target : (f : Text → Option Text) → ((o z : Text) → lacks_byte 46 o ≡ false → f (o ++ 91 ∷ z) ≡ appended (91 ∷ z) (f o))
    → (p : Text) → legal p ≡ true → f p ≡ followed_by_target p (f (own_part p))
leaves_target f before p l = go (target_part p) refl
  where
    go : (x : Text) → target_part p ≡ x → f p ≡ followed_by_target p (f (own_part p))
    go [] e = rw (own_is p e) (sym (with_none p e (f p)))
    go (a ∷ z) e = ap f (path_whole p l a z e) ∙ before (own_part p) z (own_has_dot p l a z e) ∙ appended_target p l a z e (f (own_part p))

pub replace_leaves_target : ReplaceLeavesTarget
replace_leaves_target p s t l es = leaves_target (λ (x : Text). replace_prefix x s t) (λ o z d. replace_before o z s d es t) p l
