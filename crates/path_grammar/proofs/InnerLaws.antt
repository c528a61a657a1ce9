-- The theorem that the check may look for the path in brackets first, and lemmas for the branches of `inner_text`, `is_legal_property` and
-- `is_legal_within`.
use mathlib.Core.Path.{◌≡◌, refl, sym, ap, ◌∙◌}
use mathlib.Core.Logic.{◌≢◌}
use mathlib.Core.Bool.{Bool, true, false, not, cond, ◌&&◌, true≢false, false≢true}
use mathlib.Core.List.{[], ◌∷◌, ◌++◌, append-nil}
use Prim.Native.Nat.{ℕ, zero, suc, ◌+◌, ◌-◌, ◌≤◌}
use native.Mathlib.Omega.{arith}
use lib.ListN.{length, take, drop, length-drop}
use lib.Seq.{length-take-le, drop-drop}
use Rattle.text.specs.Text.{Text, is_nil, ends_with_byte, lacks_byte, take_until, drop_last}
use Rattle.text.proofs.BoolLaws.{and_no, and_yes, not_true, not_false}
use Rattle.text.proofs.TextLaws.{last_after, nil_length, nil_not}
use Rattle.text.proofs.UntilLaws.{take_until_length, take_until_slice, drop_until_slice, drop_last_slice}
use Rattle.path_grammar.specs.Own.{own_part, target_part, has_property}
use Rattle.path_grammar.specs.Legal.{legal_own, is_absolute, closes_target, legal_target, legal_within, legal}
use Rattle.path_grammar.specs.InnerText.{inner_text, WithinByInner}
use Rattle.path_grammar.proofs.OwnLaws.{own_parts, target_nil, target_head}
use Rattle.path_grammar.proofs.LegalLaws.{empty_legal, own_unbracketed, within_absolute}

-- The last byte of a path with a target part is that of the target part.
last_target : (p : Text) (a : ℕ) (r : Text) → target_part p ≡ a ∷ r → ends_with_byte 93 p ≡ ends_with_byte 93 (a ∷ r)
last_target p a r h = ap (ends_with_byte 93) (sym (own_parts p) ∙ ap (λ (x : Text). own_part p ++ x) h) ∙ last_after 93 (own_part p) a r

-- The automaton refuses a path with a target part.
own_refuses : (p : Text) → is_nil (target_part p) ≡ false → legal_own p ≡ false
own_refuses p n = go (legal_own p) refl
  where
    go : (b : Bool) → legal_own p ≡ b → b ≡ false
    go true e = absurd (true≢false (sym (own_unbracketed p e) ∙ sym (target_nil p) ∙ n))
    go false e = refl

-- What the check finds out of a path, and what it answers at the next depth.
record Finds (d : ℕ) (p i : Text) : Type 0 where
  without : is_nil i ≡ true → legal_within (suc d) p ≡ legal_own p
  deeper : is_nil i ≡ false → legal_within (suc d) p ≡ legal_within d i
  refused : is_nil i ≡ false → legal_own p ≡ false

module _ (d : ℕ) (p : Text) where
  -- A path without a target part.
  finds_none : target_part p ≡ [] → Finds d p (inner_text p)
  unfolding inner_text legal_within legal_target drop_last
  finds_none h =
      let i : own_part p ≡ p = sym (append-nil (own_part p)) ∙ rw h at (own_parts p) in
      let e : inner_text p ≡ [] = rw h (go (ends_with_byte 93 p && (legal_own (own_part p) && has_property p))) in
      rw e
      (record { without = λ n. rw (h, i) (and_yes (legal_own p)); deeper = λ n. absurd (true≢false n); refused = λ n. absurd (true≢false n) })
    where
      go : (c : Bool) → cond {A = Text} c [] [] ≡ []
      go true = refl
      go false = refl

  -- A path with one: the tests of the own part, of the property and of the last byte.
  module _ (a : ℕ) (r : Text) (h : target_part p ≡ a ∷ r) where
    refuses : legal_own p ≡ false
    refuses = own_refuses p (rw h)

    -- The byte before the last one is not the opening bracket, since that is no closing one.
    last_after_open : (r : Text) → ends_with_byte 93 (91 ∷ r) ≡ ends_with_byte 93 r
    unfolding ends_with_byte
    last_after_open [] = refl
    last_after_open (c ∷ r) = refl

    last_is : ends_with_byte 93 p ≡ ends_with_byte 93 r
    last_is = last_target p a r h ∙ rw (target_head p a r h) (last_after_open r)

    -- A text that is not empty is absolute if it is legal.
    absolute : (t : Text) → is_nil t ≡ false → (is_absolute t && legal_within d t) ≡ legal_within d t
    absolute t n = go (legal_within d t) refl
      where
        go : (b : Bool) → legal_within d t ≡ b → (is_absolute t && b) ≡ b
        go true e = rw (within_absolute d t n e)
        go false e = and_no (is_absolute t)

    empty : (t : Text) → is_nil t ≡ true → (is_absolute t && legal_within d t) ≡ false
    empty [] n = refl
    empty (c ∷ t) n = absurd (false≢true n)

    nothing : (t : Text) → [] ≡ t → false ≡ legal_within (suc d) p → Finds d p t
    nothing t q w =
        rw (← q) (record { without = λ n. sym w ∙ sym refuses; deeper = λ n. absurd (true≢false n); refused = λ n. absurd (true≢false n) })

    tested : (l x e : Bool) → legal_own (own_part p) ≡ l → has_property p ≡ x → ends_with_byte 93 r ≡ e
        → (t : Text) → cond (e && (l && x)) (drop_last r) [] ≡ t → (l && (x && (e && (is_absolute (drop_last r) && legal_within d (drop_last r))))) ≡ legal_within (suc d) p
        → Finds d p t
    tested true true true i j k t q w =
        record {
          without = λ n. sym w ∙ empty (drop_last r) (rw q n) ∙ sym refuses;
          deeper = λ n. sym w ∙ absolute (drop_last r) (rw q n) ∙ ap (legal_within d) q;
          refused = λ n. refuses;
        }
    tested true true false i j k t q w = nothing t q w
    tested true false e i j k t q w = nothing t (rw (and_no e) at q) w
    tested false x e i j k t q w = nothing t (rw (and_no e) at q) w

    finds_some : Finds d p (inner_text p)
    unfolding inner_text legal_within legal_target closes_target
    finds_some =
        tested (legal_own (own_part p)) (has_property p) (ends_with_byte 93 r) refl refl refl (inner_text p) (rw (h, last_is)) (rw h)

  finds : Finds d p (inner_text p)
  finds = go (target_part p) refl
    where
      go : (t : Text) → target_part p ≡ t → Finds d p (inner_text p)
      go [] h = finds_none h
      go (a ∷ r) h = finds_some a r h

pub within_by_inner : WithinByInner
unfolding legal_within
within_by_inner =
    record {
      without = λ d p n. without d p n;
      deepest = λ p n. (finds 0 p).refused n;
      deeper = λ d p n. (finds d p).deeper n;
    }
  where
    without : (d : ℕ) (p : Text) → is_nil (inner_text p) ≡ true → legal_within d p ≡ legal_own p
    without zero p n = refl
    without (suc d) p n = (finds d p).without n

-- Lemmas for `is_legal_property`.
module _ (p : Text) (l : Bool) (h : l ≡ legal_own p) where
  pub property_refused : not l ≡ true → false ≡ (legal_own p && not (lacks_byte 46 p))
  property_refused n = rw (← h, not_true l n)

  pub property_tested : (k : Bool) → not l ≡ false → k ≡ lacks_byte 46 p → not k ≡ (legal_own p && not (lacks_byte 46 p))
  property_tested k n e = rw (← h, ← e, not_false l n)

-- Lemmas for `inner_text`. The index m of the first `[` divides the text into its two parts.
module _ (p : Text) where
  no_text : (c : Bool) → [] ≡ cond {A = Text} c [] []
  no_text true = refl
  no_text false = refl

  pub inner_open : (e : Bool) → e ≡ ends_with_byte 93 p → not e ≡ true → [] ≡ inner_text p
  unfolding inner_text
  inner_open e h n = rw (← h, not_true e n)

  module _ (m : ℕ) (k : m ≡ length (take_until 91 p)) where
    pub inner_inside : m ≤ length p
    inner_inside = rw k (take_until_length 91 p)

    at_own : take m p ≡ own_part p
    unfolding own_part
    at_own = rw k (take_until_slice 91 p)

    at_target : drop m p ≡ target_part p
    unfolding target_part
    at_target = rw k (drop_until_slice 91 p)

    pub inner_short : length p - m ≤ 1 → [] ≡ inner_text p
    unfolding inner_text drop_last
    inner_short s = rw (← at_target) (go (drop m p) (rw (length-drop m p) s) (ends_with_byte 93 p && (legal_own (own_part p) && has_property p)))
      where
        go : (t : Text) → length t ≤ 1 → (c : Bool) → [] ≡ cond c (drop_last (drop 1 t)) []
        go [] h c = no_text c
        go (a ∷ []) h c = no_text c
        go (a ∷ b ∷ t) h c = absurd (omega arith)

    pub inner_count : m ≡ length (take m p)
    inner_count = sym (length-take-le m p inner_inside)

    pub inner_refused : (b : Bool) → b ≡ (legal_own (take m p) && not (lacks_byte 46 (take m p))) → not b ≡ true → [] ≡ inner_text p
    unfolding inner_text has_property
    inner_refused b e n = rw (← at_own, ← e, not_true b n, and_no (ends_with_byte 93 p))

    pub inner_is : (b e : Bool) → b ≡ (legal_own (take m p) && not (lacks_byte 46 (take m p))) → not b ≡ false → e ≡ ends_with_byte 93 p → not e ≡ false
        → take (length p - 1 - (m + 1)) (drop (m + 1) p) ≡ inner_text p
    unfolding inner_text has_property
    inner_is b e f n h i =
        let j : length p - 1 - (m + 1) ≡ length p - (m + 1) - 1 = omega arith in
        rw (← at_own, ← f, ← h, not_false b n, not_false e i, ← at_target, drop_last_slice (drop 1 (drop m p)), drop-drop 1 m p, length-drop (m + 1) p, j)

-- Lemmas for `is_legal_within`.
module _ (p i : Text) (d : ℕ) (h : i ≡ inner_text p) where
  pub within_own : (b : Bool) → b ≡ legal_own p → length i ≡ 0 → b ≡ legal_within d p
  within_own b e n = e ∙ sym (within_by_inner.without d p (rw (← h) (nil_length i n)))

  pub within_deepest : length i ≢ 0 → d ≡ 0 → false ≡ legal_within d p
  within_deepest n z = rw z (sym (within_by_inner.deepest p (rw (← h) (nil_not i n))))

  pub within_deeper : (b : Bool) → length i ≢ 0 → d ≢ 0 → b ≡ legal_within (d - 1) i → b ≡ legal_within d p
  within_deeper b n z e = go d z e
    where
      go : (d : ℕ) → d ≢ 0 → b ≡ legal_within (d - 1) i → b ≡ legal_within d p
      go zero z e = absurd (z refl)
      go (suc d) z e = let k : suc d - 1 ≡ d = omega arith in rw k at e ∙ rw h (sym (within_by_inner.deeper d p (rw (← h) (nil_not i n))))

-- Lemmas for `is_legal`.
pub legal_empty : (p : Text) → length p ≡ 0 → true ≡ legal p
legal_empty [] h = sym empty_legal
legal_empty (a ∷ p) h = absurd (omega arith)

pub legal_deep : (p : Text) (b : Bool) → b ≡ legal_within 4 p → b ≡ legal p
unfolding legal
legal_deep p b e = e

pub legal_scanned : (p : Text) (l b : Bool) → l ≡ ends_with_byte 93 p → l ≡ false → b ≡ legal_own p → b ≡ legal p
legal_scanned p l b h k e =
    let i : is_nil (inner_text p) ≡ true = ap is_nil (sym (inner_open p l h (ap not k))) in
    legal_deep p b (e ∙ sym (within_by_inner.without 4 p i))
