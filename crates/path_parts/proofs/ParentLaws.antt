-- Lemmas about parents and prim paths of legal paths.
use Rattle.std.specs.Prelude.{Option, Some, None}
use mathlib.Core.Path.{◌≡◌, refl, sym, ap, ◌∙◌}
use mathlib.Core.Bool.{Bool, true, false, not, cond, ◌||◌, true≢false, false≢true}
use mathlib.Core.List.{[], ◌∷◌, ◌++◌}
use Prim.Native.Nat.{ℕ, zero, suc, ◌≤◌, ◌<◌}
use native.Mathlib.Omega.{arith}
use lib.ListN.{length, take, drop, length-take, length-append}
use lib.Seq.{take-length, take-take}
use Rattle.text.specs.Text.{Text, is_nil, ends_with_byte, lacks_byte}
use Rattle.text.proofs.BoolLaws.{and_l, and_r, not_true, or_right}
use Rattle.text.proofs.TextLaws.{no_text}
use Rattle.characters.specs.Utf8.{Between}
use Rattle.characters.specs.NameCharacter.{characters_allowed}
use Rattle.characters.proofs.AllowedLaws.{allowed_from_lem, allowed_none, allowed_ascii}
use Rattle.path_grammar.specs.Own.{own_part, target_part, has_property}
use Rattle.path_grammar.specs.Legal.{Slash, run, accept, scan_accepts, legal_own, legal}
use Rattle.path_grammar.proofs.OwnLaws.{own_parts, own_slice, own_length, own_all, target_nil, property_scan}
use Rattle.path_grammar.proofs.LegalLaws.{own_scan, own_allowed, own_by_scan, empty_own, legal_own_part, own_legal, own_is, unclosed_own, own_no_close_bracket}
use Rattle.path_parts.specs.Parent.{last_part_start, parent_end, own_parent_len, parent_len, has_parent, parent, is_property, prim_len, prim_path}
use Rattle.path_parts.proofs.ReadLaws.{Shape, empty, root, below, shape}
use Rattle.path_parts.proofs.LastLaws.{last, last_lt, last_legal, last_allowed, before, slash_len, before_lt, Dotted, dotted}

-- The results of `own_parent_len`, `parent_len` and `prim_len` are at most the length of the text, for any bytes.
own_parent_len_le : (p : Text) → own_parent_len p ≤ length p
unfolding own_parent_len
own_parent_len_le p = go (last_part_start p) refl
  where
    go : (o : Option ℕ) → last_part_start p ≡ o → parent_end o ≤ length p
    go None h = omega arith
    go (Some zero) h = last_lt (last p zero h)
    go (Some (suc k)) h = omega (arith, last_lt (last p (suc k) h))

pub parent_len_le : (p : Text) → parent_len p ≤ length p
unfolding parent_len
parent_len_le p = go (ends_with_byte 93 p)
  where
    go : (t : Bool) → cond t (length (own_part p)) (own_parent_len p) ≤ length p
    go true = own_length p
    go false = own_parent_len_le p

-- The prim path is a prefix of the own part.
prim_in_own : (p : Text) → prim_len p ≤ length (own_part p)
unfolding prim_len
prim_in_own p = go (has_property p || ends_with_byte 125 (own_part p))
  where
    go : (t : Bool) → cond t (own_parent_len (own_part p)) (length (own_part p)) ≤ length (own_part p)
    go true = own_parent_len_le (own_part p)
    go false = omega arith

pub prim_len_le : (p : Text) → prim_len p ≤ length p
prim_len_le p = omega (arith, prim_in_own p, own_length p)

-- The text before the last part of a legal path without brackets is legal.
slash_legal : (r : Text) → accept (run Slash r) ≡ true → scan_accepts (take (own_parent_len (47 ∷ r)) (47 ∷ r)) ≡ true
unfolding scan_accepts
slash_legal r e = rw (slash_len r e) (go (last_part_start r) refl)
  where
    go : (o : Option ℕ) → last_part_start r ≡ o → scan_accepts (47 ∷ take (before o) r) ≡ true
    go None h = refl
    go (Some k) h = or_right (is_nil (take k r)) (accept (run Slash (take k r))) (last_legal Slash (last r k h) e)

slash_allowed : (r : Text) → accept (run Slash r) ≡ true → characters_allowed (47 ∷ r) ≡ true → characters_allowed (take (own_parent_len (47 ∷ r)) (47 ∷ r)) ≡ true
slash_allowed r e f = rw (slash_len r e) (go (last_part_start r) refl)
  where
    go : (o : Option ℕ) → last_part_start r ≡ o → characters_allowed (47 ∷ take (before o) r) ≡ true
    go None h = allowed_ascii 47 refl [] ∙ allowed_none
    go (Some k) h =
        allowed_ascii 47 refl (take k r) ∙ allowed_from_lem (take k r)
        ∙ last_allowed Between (last r k h) (sym (allowed_from_lem r) ∙ sym (allowed_ascii 47 refl r) ∙ f)

own_parent_take : (p : Text) → legal_own p ≡ true → legal_own (take (own_parent_len p) p) ≡ true
unfolding own_parent_len
own_parent_take p e = go (shape p (own_scan p e)) (own_allowed p e)
  where
    go : {q : Text} → Shape q → characters_allowed q ≡ true → legal_own (take (own_parent_len q) q) ≡ true
    go empty a = empty_own
    go root a = empty_own
    go (below r f) a = own_by_scan (take (own_parent_len (47 ∷ r)) (47 ∷ r)) (slash_allowed r f a) ∙ slash_legal r f

-- It is shorter than the path.
own_parent_less : (p : Text) → legal_own p ≡ true → has_parent p ≡ true → length (take (own_parent_len p) p) < length p
own_parent_less p e h = go (shape p (own_scan p e)) h
  where
    go : {q : Text} → Shape q → has_parent q ≡ true → length (take (own_parent_len q) q) < length q
    go empty h = absurd (false≢true h)
    go root h = absurd (false≢true h)
    go (below r f) h = rw (slash_len r f) (omega (arith, length-take (before (last_part_start r)) r, before_lt r f))

pub unclosed_len : (p : Text) → ends_with_byte 93 p ≡ false → parent_len p ≡ own_parent_len p
unfolding parent_len
unclosed_len p h = rw h

-- A legal path, by whether it ends in a closing bracket: then its parent is its own part, and else it is its own part itself.
module _ (p : Text) (e : legal p ≡ true) where
  pub parent_closed : ends_with_byte 93 p ≡ true → take (parent_len p) p ≡ own_part p
  unfolding parent_len
  parent_closed h = rw h (own_slice p)

  pub parent_unclosed : ends_with_byte 93 p ≡ false → (parent_len p ≡ own_parent_len p) × (legal_own p ≡ true)
  parent_unclosed h = (unclosed_len p h, rw (own_is p (unclosed_own p e h)) at (legal_own_part p e))

  -- The text before the last part is legal, and shorter than the path.
  pub parent_take : legal (take (parent_len p) p) ≡ true
  parent_take = go (ends_with_byte 93 p) refl
    where
      go : (t : Bool) → ends_with_byte 93 p ≡ t → legal (take (parent_len p) p) ≡ true
      go true h = rw (parent_closed h) (own_legal (own_part p) (legal_own_part p e))
      go false h =
          let w = parent_unclosed h in
          rw w.0 (own_legal (take (own_parent_len p) p) (own_parent_take p w.1))

  pub parent_less : has_parent p ≡ true → length (take (parent_len p) p) < length p
  parent_less n = go (ends_with_byte 93 p) refl
    where
      shorter : (t : Text) → target_part p ≡ t → ends_with_byte 93 p ≡ true → length (own_part p) < length p
      shorter [] k h = absurd (true≢false (sym h ∙ own_no_close_bracket p (rw (own_is p k) at (legal_own_part p e))))
      shorter (a ∷ r) k h =
          let w : own_part p ++ a ∷ r ≡ p = rw k at (own_parts p) in
          omega (arith, length-append (own_part p) (a ∷ r), ap length w)

      go : (t : Bool) → ends_with_byte 93 p ≡ t → length (take (parent_len p) p) < length p
      go true h = rw (parent_closed h) (shorter (target_part p) refl h)
      go false h = let w = parent_unclosed h in rw w.0 (own_parent_less p w.1 n)

-- The parent is that text.
pub parent_is : (p q : Text) → parent p ≡ Some q → (has_parent p ≡ true) × (q ≡ take (parent_len p) p)
unfolding parent
parent_is p q e = go (has_parent p) refl
  where
    go : (t : Bool) → has_parent p ≡ t → (has_parent p ≡ true) × (q ≡ take (parent_len p) p)
    go true h = (h, cc (rw h at e))
    go false h = absurd (no_text (rw h at e))

pub parent_legal : (p q : Text) → legal p ≡ true → parent p ≡ Some q → legal q ≡ true
parent_legal p q e f = rw (parent_is p q f).1 (parent_take p e)

pub parent_shorter : (p q : Text) → legal p ≡ true → parent p ≡ Some q → length q < length p
parent_shorter p q e f = rw (parent_is p q f).1 (parent_less p e (parent_is p q f).0)

-- Lemmas about prim paths.
pub prim_of_own : (p : Text) → prim_path p ≡ take (prim_len p) (own_part p)
unfolding prim_path
prim_of_own p = sym (take-take (prim_len p) (length (own_part p)) p (prim_in_own p)) ∙ ap (take (prim_len p)) (own_slice p)

pub prim_legal : (p : Text) → legal p ≡ true → legal (prim_path p) ≡ true
unfolding prim_len
prim_legal p e = rw (prim_of_own p) (own_legal (take (prim_len p) (own_part p)) (go (has_property p || ends_with_byte 125 (own_part p))))
  where
    go : (t : Bool) → legal_own (take (cond t (own_parent_len (own_part p)) (length (own_part p))) (own_part p)) ≡ true
    go true = own_parent_take (own_part p) (legal_own_part p e)
    go false = rw (take-length (own_part p)) (legal_own_part p e)

-- A property path is its prim path, a dot and the property's name.
property_len : (p : Text) → own_part p ≡ p → has_property p ≡ true → prim_len p ≡ own_parent_len p
unfolding prim_len
property_len p o f = rw (f, o)

slash_joins : (r : Text) → accept (run Slash r) ≡ true → own_part (47 ∷ r) ≡ 47 ∷ r → has_property (47 ∷ r) ≡ true → Dotted r
    → 47 ∷ r ≡ prim_path (47 ∷ r) ++ 46 ∷ drop (suc (prim_len (47 ∷ r))) (47 ∷ r)
unfolding prim_path
slash_joins r e o f d =
    let n : prim_len (47 ∷ r) ≡ suc d.at = property_len (47 ∷ r) o f ∙ slash_len r e ∙ ap (λ (o : Option ℕ). suc (before o)) d.part in
    rw n (ap (λ (x : Text). 47 ∷ x) d.joins)

pub split_joins : (p : Text) → legal p ≡ true → is_property p ≡ true → p ≡ prim_path p ++ 46 ∷ drop (suc (prim_len p)) p
unfolding is_property lacks_byte
split_joins p e f = go (shape p (own_scan p (rw o at (legal_own_part p e)))) o (sym (ap (λ (x : Text). not (lacks_byte 46 x)) o) ∙ sym (property_scan p) ∙ h) h
  where
    h : has_property p ≡ true
    h = and_l (has_property p) (is_nil (target_part p)) f

    o : own_part p ≡ p
    o = own_all p (sym (target_nil p) ∙ and_r (has_property p) (is_nil (target_part p)) f)

    go : {q : Text} → Shape q → own_part q ≡ q → not (lacks_byte 46 q) ≡ true → has_property q ≡ true → q ≡ prim_path q ++ 46 ∷ drop (suc (prim_len q)) q
    go empty i k h = absurd (false≢true k)
    go root i k h = absurd (false≢true k)
    go (below r l) i k h = slash_joins r l i h (dotted Slash r l (not_true (lacks_byte 46 r) k))
