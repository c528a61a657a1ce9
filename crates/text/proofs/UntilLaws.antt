-- Lemmas about the bytes before the first byte b (`take_until`) and the text from there on (`drop_until`), and for the branches of `find_byte`.
use mathlib.Core.Path.{◌≡◌, refl, sym, ap, ◌∙◌}
use mathlib.Core.Bool.{Bool, true, false, not, cond, ◌&&◌, false≢true}
use mathlib.Core.List.{[], ◌∷◌, ◌++◌, append-nil}
use Prim.Native.Nat.{ℕ, suc, ◌+◌, ◌-◌, ◌≤◌}
use native.Mathlib.Omega.{arith}
use lib.Dec.{eqb, ltb}
use lib.ListN.{length, take, drop, length-append}
use lib.Seq.{drop-append_seam, take-append_seam}
use borrow.Author.Tests.{eqb-true, ltb-false}
use Rattle.std.specs.Prelude.{Option, Some, None}
use Rattle.std.specs.List.{position, position_or_len}
use Rattle.std.specs.Option.{unwrap_or}
use Rattle.std.proofs.lemmas.List.Sums.{prefix_len-le-length}
use Rattle.std.proofs.lemmas.List.Recursion.{is_position_or_len}
use Rattle.text.specs.Text.{Text, is_nil, ends_with_byte, lacks_byte, take_until, drop_until, drop_last}
use Rattle.text.proofs.TextLaws.{lacks_first, lacks_rest}

module _ (b : ℕ) where
  -- The two parts make up the text.
  pub until_parts : (p : Text) → take_until b p ++ drop_until b p ≡ p
  unfolding take_until drop_until
  until_parts [] = refl
  until_parts (a ∷ r) = go (eqb a b) (until_parts r)
    where
      go : (t : Bool) → take_until b r ++ drop_until b r ≡ r → cond t [] (a ∷ take_until b r) ++ cond t (a ∷ r) (drop_until b r) ≡ a ∷ r
      go true ih = refl
      go false ih = ap (λ (x : Text). a ∷ x) ih

  -- The first part has no byte b.
  pub until_lacks : (p : Text) → lacks_byte b (take_until b p) ≡ true
  unfolding take_until lacks_byte
  until_lacks [] = refl
  until_lacks (a ∷ r) = go (eqb a b) refl (until_lacks r)
    where
      go : (t : Bool) → eqb a b ≡ t → lacks_byte b (take_until b r) ≡ true → lacks_byte b (cond t [] (a ∷ take_until b r)) ≡ true
      go true h ih = refl
      go false h ih = rw h ih

  -- A text that has no byte b is passed over.
  pub take_until_after : (x y : Text) → lacks_byte b x ≡ true → take_until b (x ++ y) ≡ x ++ take_until b y
  unfolding take_until
  take_until_after [] y h = refl
  take_until_after (a ∷ x) y h = rw (lacks_first b a x h) (ap (λ (z : Text). a ∷ z) (take_until_after x y (lacks_rest b a x h)))

  pub drop_until_after : (x y : Text) → lacks_byte b x ≡ true → drop_until b (x ++ y) ≡ drop_until b y
  unfolding drop_until
  drop_until_after [] y h = refl
  drop_until_after (a ∷ x) y h = rw (lacks_first b a x h) (drop_until_after x y (lacks_rest b a x h))

  -- So without a byte b the first part is the whole text and the second is empty.
  pub take_until_all : (p : Text) → lacks_byte b p ≡ true → take_until b p ≡ p
  unfolding take_until
  take_until_all p h = ap (take_until b) (sym (append-nil p)) ∙ take_until_after p [] h ∙ append-nil p

  pub drop_until_none : (p : Text) → lacks_byte b p ≡ true → drop_until b p ≡ []
  unfolding drop_until
  drop_until_none p h = ap (drop_until b) (sym (append-nil p)) ∙ drop_until_after p [] h

  -- The second part is empty only if there is no byte b.
  pub drop_until_lacks : (p : Text) → is_nil (drop_until b p) ≡ lacks_byte b p
  unfolding drop_until lacks_byte
  drop_until_lacks [] = refl
  drop_until_lacks (a ∷ r) = go (eqb a b) (drop_until_lacks r)
    where
      go : (t : Bool) → is_nil (drop_until b r) ≡ lacks_byte b r → is_nil (cond t (a ∷ r) (drop_until b r)) ≡ (not t && lacks_byte b r)
      go true ih = refl
      go false ih = ih

  -- The second part begins with the byte, so nothing is before it and all of it is from there on.
  pub take_drop_until : (p : Text) → take_until b (drop_until b p) ≡ []
  unfolding take_until drop_until
  take_drop_until [] = refl
  take_drop_until (a ∷ r) = go (eqb a b) refl (take_drop_until r)
    where
      go : (t : Bool) → eqb a b ≡ t → take_until b (drop_until b r) ≡ [] → take_until b (cond t (a ∷ r) (drop_until b r)) ≡ []
      go true h ih = rw h
      go false h ih = ih

  pub drop_drop_until : (p : Text) → drop_until b (drop_until b p) ≡ drop_until b p
  unfolding drop_until
  drop_drop_until [] = refl
  drop_drop_until (a ∷ r) = go (eqb a b) refl (drop_drop_until r)
    where
      go : (t : Bool) → eqb a b ≡ t → drop_until b (drop_until b r) ≡ drop_until b r → drop_until b (cond t (a ∷ r) (drop_until b r)) ≡ cond t (a ∷ r) (drop_until b r)
      go true h ih = rw h
      go false h ih = ih

  pub drop_until_head : (p : Text) (a : ℕ) (r : Text) → drop_until b p ≡ a ∷ r → a ≡ b
  unfolding drop_until
  drop_until_head [] a r e = absurd (omega (arith, ap length e))
  drop_until_head (c ∷ p) a r e = go (eqb c b) refl (drop_until_head p a r)
    where
      go : (t : Bool) → eqb c b ≡ t → (drop_until b p ≡ a ∷ r → a ≡ b) → a ≡ b
      go true h ih = let k : c ∷ p ≡ a ∷ r = rw h at e in let i : c ≡ b = eqb-true c b h in cc
      go false h ih = ih (rw h at e)

  -- The parts as slices of the text.
  pub take_until_slice : (p : Text) → take (length (take_until b p)) p ≡ take_until b p
  take_until_slice p = ap (take (length (take_until b p))) (sym (until_parts p)) ∙ take-append_seam (take_until b p) (drop_until b p)

  pub drop_until_slice : (p : Text) → drop (length (take_until b p)) p ≡ drop_until b p
  drop_until_slice p = ap (drop (length (take_until b p))) (sym (until_parts p)) ∙ drop-append_seam (take_until b p) (drop_until b p)

  pub take_until_length : (p : Text) → length (take_until b p) ≤ length p
  take_until_length p =
      let e : length (take_until b p) + length (drop_until b p) ≡ length p = sym (length-append (take_until b p) (drop_until b p)) ∙ ap length (until_parts p) in
      omega arith

-- Lemmas for `find_byte`.
pub find_none : (b : ℕ) (p : Text) (lacks : Bool) → lacks ≡ lacks_byte b p → lacks ≡ true → length p ≡ length (take_until b p)
find_none b p lacks e h = ap length (sym (take_until_all b p (sym e ∙ h)))

until_length : (b : ℕ) (p : Text) → length (take_until b p) ≡ position_or_len (λ a. eqb a b) p
unfolding take_until
until_length b p = is_position_or_len (λ (s : Text). length (take_until b s)) (λ a. eqb a b) refl step p
  where
    step : (a : ℕ) (r : Text) → length (take_until b (a ∷ r)) ≡ cond (eqb a b) 0 (1 + length (take_until b r))
    step a r = go (eqb a b)
      where
        go : (t : Bool) → length (cond t [] (a ∷ take_until b r)) ≡ cond t 0 (1 + length (take_until b r))
        go true = refl
        go false = omega arith

-- What `position` found, or the length.
pub position_or_end : (f : ℕ → Bool) (p : Text) (o : Option ℕ) (n : ℕ) → o ≡ position f p → n ≡ unwrap_or o (length p) → n ≡ position_or_len f p
position_or_end f p o n e h = h ∙ rw e (go (ltb (position_or_len f p) (length p)) refl)
  where
    go : (t : Bool) → ltb (position_or_len f p) (length p) ≡ t → unwrap_or (cond t (Some (position_or_len f p)) None) (length p) ≡ position_or_len f p
    go true k = refl
    go false k = omega (arith, ltb-false (position_or_len f p) (length p) k, prefix_len-le-length (λ a. not (f a)) p)

pub find_position : (b : ℕ) (p : Text) (o : Option ℕ) (n : ℕ) → o ≡ position (λ a. eqb a b) p → n ≡ unwrap_or o (length p) → n ≡ length (take_until b p)
find_position b p o n e h = position_or_end (λ a. eqb a b) p o n e h ∙ sym (until_length b p)

-- Lemmas about a text and its last byte.
pub last_split : (b : ℕ) (t : Text) → ends_with_byte b t ≡ true → drop_last t ++ b ∷ [] ≡ t
unfolding ends_with_byte drop_last
last_split b [] h = absurd (false≢true h)
last_split b (a ∷ []) h = let e : a ≡ b = eqb-true a b h in cc
last_split b (a ∷ c ∷ r) h = ap (λ (x : Text). a ∷ x) (last_split b (c ∷ r) h)

pub drop_last_snoc : (t : Text) (b : ℕ) → drop_last (t ++ b ∷ []) ≡ t
unfolding drop_last
drop_last_snoc [] b = refl
drop_last_snoc (a ∷ []) b = refl
drop_last_snoc (a ∷ c ∷ t) b = ap (λ (x : Text). a ∷ x) (drop_last_snoc (c ∷ t) b)

pub drop_last_slice : (t : Text) → drop_last t ≡ take (length t - 1) t
unfolding drop_last
drop_last_slice [] = refl
drop_last_slice (a ∷ []) = refl
drop_last_slice (a ∷ c ∷ r) =
    let k : suc (suc (length r)) - 1 ≡ suc (length r) = omega arith in
    let i : suc (length r) - 1 ≡ length r = omega arith in
    rw k (ap (λ (x : Text). a ∷ x) (rw i at (drop_last_slice (c ∷ r))))
