-- Lemmas about texts, and for the branches of the functions that compare them.
use Rattle.std.specs.Prelude.{Option, Some, None}
use Rattle.std.specs.Option.{is_some, option_copied, option_eq}
use Rattle.std.specs.List.{list_any, slice_get}
use Rattle.std.proofs.lemmas.Option.{slice_get-get_or}
use denote.Ref.{Bor}
use mathlib.Core.Path.{◌≡◌, refl, sym, ap, ◌∙◌}
use mathlib.Core.Logic.{◌≢◌}
use mathlib.Core.Bool.{Bool, true, false, not, cond, ◌&&◌, ◌||◌, true≢false}
use mathlib.Core.List.{List, [], ◌∷◌, ◌++◌}
use Prim.Native.Nat.{ℕ, suc, ◌-◌, ◌≤◌, ◌<◌}
use native.Mathlib.Omega.{arith}
use lib.Dec.{eqb}
use lib.ListN.{length, get_or, drop, drop_of_length-le, length-append, get_or-append}
use lib.Seq.{drop-cons, drop-append_seam}
use borrow.Author.Tests.{eqb-true}
use Rattle.text.specs.Text.{Text, is_nil, equal, strip_prefix, starts_with, ends_with_byte, lacks_byte}
use Rattle.text.proofs.BoolLaws.{and_l, and_r, and_yes, and_assoc, eqb_self, not_true}

-- `none` is not `some`
pub no_text : {q : Text} → None ≡ Some q → ⊥
no_text {q} e = let z : ◌≡◌ {A = ℕ} 0 1 = cc in omega arith

-- The remainder after a prefix, and the whole text.
pub after_up : (s p r : Text) → strip_prefix s p ≡ Some r → p ≡ s ++ r
unfolding strip_prefix
after_up [] p r e = cc
after_up (a ∷ s) [] r e = cc
after_up (a ∷ s) (b ∷ p) r e = go (eqb a b) refl (after_up s p r)
  where
    go : (t : Bool) → eqb a b ≡ t → (strip_prefix s p ≡ Some r → p ≡ s ++ r) → b ∷ p ≡ a ∷ (s ++ r)
    go true h ih = let q : a ≡ b = eqb-true a b h in let k : p ≡ s ++ r = ih (rw h at e) in cc
    go false h ih = absurd (no_text (rw h at e))

pub after_down : (s r : Text) → strip_prefix s (s ++ r) ≡ Some r
unfolding strip_prefix
after_down [] r = refl
after_down (a ∷ s) r = rw (eqb_self a) (after_down s r)

pub starts_rest : (s p : Text) → starts_with s p ≡ true → strip_prefix s p ≡ Some (drop (length s) p)
unfolding starts_with
starts_rest s p h = go (strip_prefix s p) refl
  where
    go : (o : Option Text) → strip_prefix s p ≡ o → strip_prefix s p ≡ Some (drop (length s) p)
    go None e = absurd (true≢false (sym h ∙ ap is_some e))
    go (Some r) e = rw (e, after_up s p r e, drop-append_seam s r)

pub starts_long : (s p : Text) → starts_with s p ≡ true → length s ≤ length p
unfolding starts_with
starts_long s p h = go (strip_prefix s p) refl
  where
    go : (o : Option Text) → strip_prefix s p ≡ o → length s ≤ length p
    go None e = absurd (true≢false (sym h ∙ ap is_some e))
    go (Some r) e = rw (after_up s p r e, length-append s r) (omega arith)

-- Lemmas for `starts_with`.
pub starts_shorter : (s p : Text) → length p < length s → false ≡ starts_with s p
starts_shorter s p h = go (starts_with s p) refl
  where
    go : (b : Bool) → starts_with s p ≡ b → false ≡ b
    go true e = absurd (omega (arith, starts_long s p e))
    go false e = refl

pub starts_none : (s p : Text) → length s ≡ 0 → true ≡ starts_with s p
unfolding starts_with strip_prefix
starts_none [] p h = refl
starts_none (a ∷ s) p h = absurd (omega arith)

-- A text that begins with s has the bytes of s at the indices of s.
pub starts_at : (s p : Text) (i : ℕ) → i < length s → starts_with s p ≡ true → get_or p i 0 ≡ get_or s i 0
unfolding starts_with
starts_at s p i h e = rw (after_up s p (drop (length s) p) (starts_rest s p e)) (get_or-append s (drop (length s) p) 0 i h)

pub starts_differ : (s p : Text) → length s ≢ 0 → get_or p (length s - 1) 0 ≢ get_or s (length s - 1) 0 → false ≡ starts_with s p
starts_differ s p n d = go (starts_with s p) refl
  where
    go : (b : Bool) → starts_with s p ≡ b → false ≡ b
    go true e = absurd (d (starts_at s p (length s - 1) (omega (arith, n)) e))
    go false e = refl

starts_cons : (a : ℕ) (s : Text) (b : ℕ) (p : Text) → starts_with (a ∷ s) (b ∷ p) ≡ (eqb a b && starts_with s p)
unfolding starts_with strip_prefix
starts_cons a s b p = go (eqb a b)
  where
    go : (t : Bool) → is_some (cond t (strip_prefix s p) None) ≡ (t && is_some (strip_prefix s p))
    go true = refl
    go false = refl

-- The loop compares a pair: its two bytes are those at the number of pairs before it.
pub starts_next : {P : Type 0} (s p : Text) (ys : List P) (y : P) (same : Bool) (a b : ℕ) → length ys < length s → length ys < length p → a ≡ get_or s (length ys) 0 → b ≡ get_or p (length ys) 0
    → starts_with s p ≡ (same && starts_with (drop (length ys) s) (drop (length ys) p))
    → starts_with s p ≡ (same && eqb a b && starts_with (drop (length (ys ++ y ∷ [])) s) (drop (length (ys ++ y ∷ [])) p))
starts_next s p ys y same a b h l f g e =
    let i : ℕ = length ys in
    let n : length (ys ++ y ∷ []) ≡ suc i = simp length-append (omega arith) in
    rw (n, f, g, and_assoc same (eqb (get_or s i 0) (get_or p i 0)) (starts_with (drop (suc i) s) (drop (suc i) p)), ← starts_cons (get_or s i 0) (drop (suc i) s) (get_or p i 0) (drop (suc i) p))
    (rw (drop-cons p i 0 l, drop-cons s i 0 h) at e)

pub starts_end : (s p : Text) (i : ℕ) (same : Bool) → length s ≤ i → starts_with s p ≡ (same && starts_with (drop i s) (drop i p)) → same ≡ starts_with s p
unfolding starts_with strip_prefix
starts_end s p i same l e = rw (e, drop_of_length-le s l) (sym (and_yes same))

-- Lemmas for `is_equal`.
pub equal_lengths : (a b : Text) → length a ≢ length b → false ≡ equal a b
unfolding equal
equal_lengths [] [] d = absurd (d refl)
equal_lengths [] (y ∷ b) d = refl
equal_lengths (x ∷ a) [] d = refl
equal_lengths (x ∷ a) (y ∷ b) d = go (eqb x y) (equal_lengths a b (λ e. d (ap suc e)))
  where
    go : (t : Bool) → false ≡ equal a b → false ≡ (t && equal a b)
    go true ih = ih
    go false ih = refl

equal_as_starts : (a b : Text) → length a ≡ length b → starts_with a b ≡ equal a b
unfolding equal starts_with strip_prefix
equal_as_starts [] [] l = refl
equal_as_starts [] (y ∷ b) l = absurd (omega arith)
equal_as_starts (x ∷ a) [] l = absurd (omega arith)
equal_as_starts (x ∷ a) (y ∷ b) l = go (eqb x y) refl (equal_as_starts a b (omega arith))
  where
    go : (t : Bool) → eqb x y ≡ t → starts_with a b ≡ equal a b → starts_with (x ∷ a) (y ∷ b) ≡ equal (x ∷ a) (y ∷ b)
    go true h ih = rw h ih
    go false h ih = rw h

pub equal_starts : (a b : Text) (r : Bool) → length a ≡ length b → r ≡ starts_with a b → r ≡ equal a b
equal_starts a b r l h = h ∙ equal_as_starts a b l

-- Texts that `equal` accepts are equal.
pub equal_is : (a b : Text) → equal a b ≡ true → a ≡ b
unfolding equal
equal_is [] [] e = refl
equal_is [] (y ∷ b) e = absurd (true≢false (sym e))
equal_is (x ∷ a) [] e = absurd (true≢false (sym e))
equal_is (x ∷ a) (y ∷ b) e =
    let h : x ≡ y = eqb-true x y (and_l (eqb x y) (equal a b) e) in
    let k : a ≡ b = equal_is a b (and_r (eqb x y) (equal a b) e) in
    cc

pub equal_self : (a : Text) → equal a a ≡ true
unfolding equal
equal_self [] = refl
equal_self (x ∷ a) = rw (eqb_self x) (equal_self a)

-- A text equals s ++ r exactly if it begins with s and the remainder equals r.
pub equal_append : (s r t : Text) → equal (s ++ r) t ≡ (starts_with s t && equal r (drop (length s) t))
unfolding equal starts_with strip_prefix
equal_append [] r t = refl
equal_append (a ∷ s) r [] = refl
equal_append (a ∷ s) r (b ∷ t) = go (eqb a b) (equal_append s r t)
  where
    go : (e : Bool) → equal (s ++ r) t ≡ (is_some (strip_prefix s t) && equal r (drop (length s) t))
        → (e && equal (s ++ r) t) ≡ (is_some (cond e (strip_prefix s t) None) && equal r (drop (length s) t))
    go true h = h
    go false h = refl

-- Lemmas for `last_is`.
pub last_none : (b : ℕ) (s : Text) → length s ≡ 0 → false ≡ ends_with_byte b s
unfolding ends_with_byte
last_none b [] l = refl
last_none b (a ∷ s) l = absurd (omega arith)

last_at : (b : ℕ) (s : Text) (a : ℕ) → eqb (get_or (a ∷ s) (length s) 0) b ≡ ends_with_byte b (a ∷ s)
unfolding ends_with_byte
last_at b [] a = refl
last_at b (c ∷ s) a = last_at b s c

pub last_some : (b : ℕ) (s : Text) → length s ≢ 0 → eqb (get_or s (length s - 1) 0) b ≡ ends_with_byte b s
last_some b [] l = absurd (l refl)
last_some b (a ∷ s) l = let k : suc (length s) - 1 ≡ length s = omega arith in rw k (last_at b s a)

pub last_get : (b : ℕ) (s : Text) (o : Option (Bor ℕ)) (r : Bor ℕ) → r.now ≡ b → option_copied o ≡ slice_get s (length s - 1) → option_eq (λ x y. eqb x.now y.now) o (Some r) ≡ ends_with_byte b s
unfolding ends_with_byte
last_get b [] None r f e = refl
last_get b [] (Some x) r f e = cc
last_get b (a ∷ s) None r f e = let g = slice_get-get_or (a ∷ s) (length (a ∷ s) - 1) 0 (omega arith) in cc
last_get b (a ∷ s) (Some x) r f e =
    let g = slice_get-get_or (a ∷ s) (length (a ∷ s) - 1) 0 (omega arith) in
    let h : x.now ≡ get_or (a ∷ s) (length (a ∷ s) - 1) 0 = cc in
    rw (f, h) (last_some b (a ∷ s) (λ z. absurd (omega arith)))

pub last_snoc : (b : ℕ) (s : Text) (c : ℕ) → ends_with_byte b (s ++ c ∷ []) ≡ eqb c b
unfolding ends_with_byte
last_snoc b [] c = refl
last_snoc b (a ∷ []) c = refl
last_snoc b (a ∷ d ∷ s) c = last_snoc b (d ∷ s) c

pub last_after : (b : ℕ) (s : Text) (a : ℕ) (r : Text) → ends_with_byte b (s ++ a ∷ r) ≡ ends_with_byte b (a ∷ r)
unfolding ends_with_byte
last_after b [] a r = refl
last_after b (c ∷ []) a r = refl
last_after b (c ∷ d ∷ s) a r = last_after b (d ∷ s) a r

-- Lemmas about `lacks_byte`. It is what `contains` denies.
pub lacks_contains : (b : ℕ) (s : Text) → not (list_any (λ a. eqb a b) s) ≡ lacks_byte b s
unfolding lacks_byte
lacks_contains b [] = refl
lacks_contains b (a ∷ s) = go (eqb a b) (lacks_contains b s)
  where
    go : (t : Bool) → not (list_any (λ a. eqb a b) s) ≡ lacks_byte b s → not (t || list_any (λ a. eqb a b) s) ≡ (not t && lacks_byte b s)
    go true ih = refl
    go false ih = ih

pub lacks_first : (b a : ℕ) (r : Text) → lacks_byte b (a ∷ r) ≡ true → eqb a b ≡ false
unfolding lacks_byte
lacks_first b a r f = not_true (eqb a b) (and_l (not (eqb a b)) (lacks_byte b r) f)

pub lacks_rest : (b a : ℕ) (r : Text) → lacks_byte b (a ∷ r) ≡ true → lacks_byte b r ≡ true
unfolding lacks_byte
lacks_rest b a r f = and_r (not (eqb a b)) (lacks_byte b r) f

pub lacks_after : (b : ℕ) (s r : Text) → lacks_byte b (s ++ r) ≡ true → lacks_byte b r ≡ true
unfolding lacks_byte
lacks_after b [] r e = e
lacks_after b (a ∷ s) r e = lacks_after b s r (and_r (not (eqb a b)) (lacks_byte b (s ++ r)) e)

pub lacks_last : (b : ℕ) (r : Text) → lacks_byte b r ≡ true → ends_with_byte b r ≡ false
unfolding ends_with_byte
lacks_last b [] e = refl
lacks_last b (a ∷ []) e = lacks_first b a [] e
lacks_last b (a ∷ c ∷ r) e = lacks_last b (c ∷ r) (lacks_rest b a (c ∷ r) e)

pub lacks_append : (b : ℕ) (s r : Text) → lacks_byte b (s ++ r) ≡ (lacks_byte b s && lacks_byte b r)
unfolding lacks_byte
lacks_append b [] r = refl
lacks_append b (a ∷ s) r = rw (lacks_append b s r) (sym (and_assoc (not (eqb a b)) (lacks_byte b s) (lacks_byte b r)))

pub lacks_before : (b : ℕ) (s r : Text) → lacks_byte b (s ++ r) ≡ true → lacks_byte b s ≡ true
lacks_before b s r e = and_l (lacks_byte b s) (lacks_byte b r) (sym (lacks_append b s r) ∙ e)

pub lacks_join : (b : ℕ) (s r : Text) → lacks_byte b s ≡ true → lacks_byte b r ≡ true → lacks_byte b (s ++ r) ≡ true
unfolding lacks_byte
lacks_join b [] r e f = f
lacks_join b (a ∷ s) r e f = rw (and_l (not (eqb a b)) (lacks_byte b s) e) (lacks_join b s r (and_r (not (eqb a b)) (lacks_byte b s) e) f)

-- A text is empty exactly if its length is 0.
pub nil_length : (t : Text) → length t ≡ 0 → is_nil t ≡ true
nil_length [] h = refl
nil_length (a ∷ t) h = absurd (omega arith)

pub nil_not : (t : Text) → length t ≢ 0 → is_nil t ≡ false
nil_not [] h = absurd (h refl)
nil_not (a ∷ t) h = refl
