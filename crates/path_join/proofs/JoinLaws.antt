-- Prefix replacement as a relation between two paths that is symmetric in old and new prefix.
use Rattle.std.specs.Prelude.{Some}
use mathlib.Core.Path.{◌≡◌, refl, sym, ◌∙◌}
use mathlib.Core.Bool.{Bool, true, false, cond, true≢false, false≢true}
use mathlib.Core.List.{[], ◌∷◌, ◌++◌, append-nil}
use Prim.Native.Nat.{ℕ, ◌+◌}
use native.Mathlib.Omega.{arith}
use lib.Dec.{eqb}
use lib.ListN.{length, take, drop}
use borrow.Author.Tests.{eqb-true}
use Rattle.text.specs.Text.{Text, is_nil, ends_with_byte, lacks_byte, take_until}
use Rattle.text.proofs.BoolLaws.{and_no, or_false}
use Rattle.text.proofs.TextLaws.{last_snoc, lacks_after}
use Rattle.path_grammar.specs.Own.{own_part, has_variant_selection}
use Rattle.path_grammar.specs.Legal.{is_name_byte, is_root, legal, is_end}
use Rattle.path_grammar.proofs.OwnLaws.{no_selection, own_after, lacks_own_after}
use Rattle.path_grammar.proofs.LegalLaws.{no_root_dot, legal_last, end_lacks, end_close, end_unbracketed, end_no_selection, root_is}
use Rattle.path_prefix.specs.Prefix.{can_follow, has_prefix}
use Rattle.path_join.specs.Join.{join, replace_prefix}
use Rattle.path_prefix.specs.Elements.{count_elements}
use Rattle.path_prefix.proofs.PrefixLaws.{prefix_made, prefix_rest}
use Rattle.path_join.proofs.ReplaceLaws.{replace_made, replace_prefix_lem, replaced_prefix}
use Rattle.path_prefix.proofs.CountLaws.{count_root, count_after}

-- A prim path, or nothing for `/`: the text to which a slash and a name may be appended.
pub stem : Text → Text
stem s = cond (is_root s) [] s

-- The stem followed by a text.
pub stem_root : (y : Text) → stem (47 ∷ []) ++ y ≡ y
unfolding stem
stem_root y = refl

pub stem_not : (s y : Text) → is_root s ≡ false → stem s ++ y ≡ s ++ y
unfolding stem
stem_not s y h = rw h

-- The path p is s and a remainder, and q is t and the same remainder: nothing, a slash and more, or a property.
pub data Rel (s t : Text) : Text → Text → Type 0 where
  whole : Rel s t s t
  under : (x : ℕ) (r : Text) → Rel s t (stem s ++ 47 ∷ x ∷ r) (stem t ++ 47 ∷ x ∷ r)
  dotted : (r : Text) → is_root s ≡ false → is_root t ≡ false → Rel s t (s ++ 46 ∷ r) (t ++ 46 ∷ r)

-- Then q and p are related by t and s.
pub swap : {s t p q : Text} → Rel s t p q → Rel t s q p
swap whole = whole
swap (under x r) = under x r
swap (dotted r h k) = dotted r k h

-- A slash is written unless the new prefix is `/`.
slash_stem : (t y : Text) → t ++ (take (cond (is_root t) 0 1) (47 ∷ []) ++ y) ≡ stem t ++ 47 ∷ y
slash_stem t y = go (is_root t) refl
  where
    go : (b : Bool) → is_root t ≡ b → t ++ (take (cond b 0 1) (47 ∷ []) ++ y) ≡ stem t ++ 47 ∷ y
    go true h = rw (root_is t h, stem_root)
    go false h = sym (stem_not t (47 ∷ y) h)

-- The joined text, by the first byte of the remainder.
pub join_none : (s t : Text) → join s t [] ≡ t
unfolding join
join_none s t = append-nil t

pub join_root : (t : Text) (a : ℕ) (r : Text) → join (47 ∷ []) t (a ∷ r) ≡ stem t ++ 47 ∷ a ∷ r
unfolding join
join_root t a r = slash_stem t (a ∷ r)

pub join_slash : (s t r : Text) → is_root s ≡ false → ends_with_byte 125 t ≡ false → join s t (47 ∷ r) ≡ stem t ++ 47 ∷ r
unfolding join
join_slash s t r h l = rw (h, l, or_false (is_root t)) (slash_stem t r)

pub join_other : (s t : Text) (a : ℕ) (r : Text) → is_root s ≡ false → ends_with_byte 125 s ≡ false → eqb a 47 ≡ false → join s t (a ∷ r) ≡ t ++ a ∷ r
unfolding join
join_other s t a r h l e = rw (h, e, l)

made : (s t r p q : Text) → can_follow s r ≡ true → s ++ r ≡ p → join s t r ≡ q → (has_prefix p s ≡ true) × (replace_prefix p s t ≡ Some q)
made s t r p q f h k = rw (← h, ← k) (prefix_made s r ∙ f, replace_made s t r f)

-- Related paths: replacing the prefix of the one yields the other.
pub back : {s t p q : Text} → Rel s t p q → is_end s ≡ true → is_end t ≡ true → (has_prefix p s ≡ true) × (replace_prefix p s t ≡ Some q)
unfolding can_follow
back {s} {t} whole es et = made s t [] s t refl (append-nil s) (join_none s t)
back {s} {t} (under x r) es et = go (is_root s) refl
  where
    go : (b : Bool) → is_root s ≡ b
        → (has_prefix (stem s ++ 47 ∷ x ∷ r) s ≡ true) × (replace_prefix (stem s ++ 47 ∷ x ∷ r) s t ≡ Some (stem t ++ 47 ∷ x ∷ r))
    go true h = rw (root_is s h) (made (47 ∷ []) t (x ∷ r) _ _ refl (sym (stem_root (47 ∷ x ∷ r))) (join_root t x r))
    go false h = made s t (47 ∷ x ∷ r) _ _ (rw h) (sym (stem_not s (47 ∷ x ∷ r) h)) (join_slash s t (x ∷ r) h (end_close t et))
back {s} {t} (dotted r h k) es et = made s t (46 ∷ r) _ _ (rw h) refl (join_other s t 46 r h (end_close s es) refl)

under_root : (t : Text) (a : ℕ) (r : Text) → Rel (47 ∷ []) t (47 ∷ a ∷ r) (join (47 ∷ []) t (a ∷ r))
unfolding stem
under_root t a r = rw (join_root t a r) (under a r)

under_slash : (s t r : Text) → is_nil s ≡ false → is_root s ≡ false → is_end t ≡ true → legal (s ++ 47 ∷ r) ≡ true
    → Rel s t (s ++ 47 ∷ r) (join s t (47 ∷ r))
under_slash s t [] n h et lp = absurd (true≢false (sym (last_snoc 47 s 47) ∙ legal_last (s ++ 47 ∷ []) lp (longer s n)))
  where
    longer : (s : Text) → is_nil s ≡ false → is_root (s ++ 47 ∷ []) ≡ false
    longer [] n = absurd (true≢false n)
    longer (b ∷ []) n = and_no (eqb b 47)
    longer (b ∷ c ∷ s) n = and_no (eqb b 47)
under_slash s t (x ∷ r) n h et lp = rw (join_slash s t (x ∷ r) h (end_close t et), ← (stem_not s (47 ∷ x ∷ r) h)) (under x r)

after_dot : (s t r : Text) → is_root s ≡ false → is_end s ≡ true → legal (join s t (46 ∷ r)) ≡ true → Rel s t (s ++ 46 ∷ r) (join s t (46 ∷ r))
after_dot s t r h es lq = go (is_root t) refl
  where
    is : join s t (46 ∷ r) ≡ t ++ 46 ∷ r
    is = join_other s t 46 r h (end_close s es) refl

    go : (b : Bool) → is_root t ≡ b → Rel s t (s ++ 46 ∷ r) (join s t (46 ∷ r))
    go true k = absurd (no_root_dot r (rw (is, root_is t k) at lq))
    go false k = rw is (dotted r h k)

-- What follows an end in a path without selections of its own does not begin with `{`.
no_open : (s : Text) (a : ℕ) (r : Text) → is_end s ≡ true → has_variant_selection (s ++ a ∷ r) ≡ false → eqb a 123 ≡ false
unfolding own_part take_until lacks_byte
no_open s a r es f = go (eqb a 123) refl
  where
    after : lacks_byte 123 (own_part (a ∷ r)) ≡ true
    after = lacks_after 123 s (own_part (a ∷ r)) (rw (own_after s (a ∷ r) (end_unbracketed s es)) at ((no_selection (s ++ a ∷ r)).0 f))

    go : (b : Bool) → eqb a 123 ≡ b → b ≡ false
    go true h = absurd (false≢true (rw (eqb-true a 123 h) at after))
    go false h = refl

-- A path s ++ r, where r may follow s, is related to the joined text.
pub rests : (s t r : Text) → is_nil s ≡ false → is_end s ≡ true → is_end t ≡ true → legal (s ++ r) ≡ true → has_variant_selection (s ++ r) ≡ false
    → can_follow s r ≡ true → legal (join s t r) ≡ true → Rel s t (s ++ r) (join s t r)
unfolding can_follow
rests s t [] n es et lp f j lq = rw (join_none s t, append-nil s) whole
rests s t (a ∷ r) n es et lp f j lq = root (is_root s) refl
  where
    dot : (b : Bool) → is_root s ≡ false → eqb a 47 ≡ false → eqb a 46 ≡ b → Rel s t (s ++ a ∷ r) (join s t (a ∷ r))
    dot true h k e = rw (eqb-true a 46 e) (after_dot s t r h es (rw (eqb-true a 46 e) at lq))
    dot false h k e = absurd (false≢true (rw (h, k, e, no_open s a r es f, end_close s es) at j))

    slash : (b : Bool) → is_root s ≡ false → eqb a 47 ≡ b → Rel s t (s ++ a ∷ r) (join s t (a ∷ r))
    slash true h k = rw (eqb-true a 47 k) (under_slash s t r n h et (rw (eqb-true a 47 k) at lp))
    slash false h k = dot (eqb a 46) h k refl

    root : (b : Bool) → is_root s ≡ b → Rel s t (s ++ a ∷ r) (join s t (a ∷ r))
    root true h = rw (root_is s h) (under_root t a r)
    root false h = slash (eqb a 47) h refl

-- So a path is related to the result of prefix replacement.
pub replaced : (p s t q : Text) → is_nil s ≡ false → is_end s ≡ true → is_end t ≡ true → legal p ≡ true → has_variant_selection p ≡ false
    → replace_prefix p s t ≡ Some q → legal q ≡ true → Rel s t p q
replaced p s t q n es et lp f e lq = go (drop (length s) p) (prefix_rest p s h).0 (prefix_rest p s h).1 (sym (replace_prefix_lem p s t h) ∙ e)
  where
    h : has_prefix p s ≡ true
    h = replaced_prefix p s t q e

    go : (r : Text) → p ≡ s ++ r → can_follow s r ≡ true → Some (join s t r) ≡ Some q → Rel s t p q
    go r k j i = let m : join s t r ≡ q = cc in rw (k, ← m) (rests s t r n es et (rw k at lp) (rw k at f) j (rw (← m) at lq))

count_stem : (f : Bool) (s y : Text) → is_end s ≡ true → count_elements f (stem s ++ 47 ∷ y) ≡ count_elements f s + count_elements f (47 ∷ y)
unfolding is_name_byte
count_stem f s y e = go (is_root s) refl
  where
    go : (b : Bool) → is_root s ≡ b → count_elements f (stem s ++ 47 ∷ y) ≡ count_elements f s + count_elements f (47 ∷ y)
    go true h = rw (root_is s h, stem_root, count_root f) (omega arith)
    go false h = rw (stem_not s (47 ∷ y) h) (count_after f s 47 y refl e h)

-- The path p has as many elements beyond those of s as q has beyond those of t.
pub weigh : {s t p q : Text} (f : Bool) → Rel s t p q → is_end s ≡ true → is_end t ≡ true → count_elements f p + count_elements f t ≡ count_elements f q + count_elements f s
unfolding is_name_byte
weigh f whole es et = omega arith
weigh {s} {t} f (under x r) es et = omega (arith, count_stem f s (x ∷ r) es, count_stem f t (x ∷ r) et)
weigh {s} {t} f (dotted r h k) es et = omega (arith, count_after f s 46 r refl es h, count_after f t 46 r refl et k)

-- A text without brackets before a remainder, and another without selections before the same: if the first path has no selection of its own,
-- the second has none.
selection_moves : (x y r : Text) → lacks_byte 91 x ≡ true → lacks_byte 91 y ≡ true → lacks_byte 123 y ≡ true → has_variant_selection (x ++ r) ≡ false
    → has_variant_selection (y ++ r) ≡ false
selection_moves x y r hx hy f e =
    (no_selection (y ++ r)).1
    (lacks_own_after y r hy 123 f ∙ lacks_after 123 x (own_part r) (rw (own_after x r hx) at ((no_selection (x ++ r)).0 e)))

stem_lacks : (b : ℕ) (t : Text) → lacks_byte b t ≡ true → lacks_byte b (stem t) ≡ true
unfolding stem lacks_byte
stem_lacks b t f = go (is_root t)
  where
    go : (c : Bool) → lacks_byte b (cond c [] t) ≡ true
    go true = refl
    go false = f

-- If p has no selection of its own, q has none.
pub still_free : {s t p q : Text} → Rel s t p q → is_end s ≡ true → is_end t ≡ true → has_variant_selection p ≡ false → has_variant_selection q ≡ false
still_free {s} {t} whole es et f = end_no_selection t et
still_free {s} {t} (under x r) es et f =
    selection_moves (stem s) (stem t) (47 ∷ x ∷ r) (stem_lacks 91 s (end_unbracketed s es)) (stem_lacks 91 t (end_unbracketed t et))
    (stem_lacks 123 t (end_lacks t et)) f
still_free {s} {t} (dotted r h k) es et f = selection_moves s t (46 ∷ r) (end_unbracketed s es) (end_unbracketed t et) (end_lacks t et) f
