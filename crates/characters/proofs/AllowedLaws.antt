-- The allowed texts, put together and taken apart: no character is cut by a byte of ASCII, or by the end of an allowed text.
use Rattle.std.specs.Prelude.{Option, Some, None}
use mathlib.Core.Path.{◌≡◌, refl, sym, ◌∙◌}
use mathlib.Core.Bool.{true, false≢true}
use mathlib.Core.List.{[], ◌∷◌, ◌++◌}
use Prim.Native.Nat.{ℕ}
use lib.Dec.{leb}
use Rattle.text.specs.Text.{Text}
use Rattle.text.proofs.BoolLaws.{and_l, and_r}
use Rattle.characters.specs.Utf8.{Reading, Between, decode}
use Rattle.characters.specs.NameCharacter.{characters_allowed, is_ascii}
use Rattle.characters.proofs.ReadingLaws.{allowed_from, next, allowed_after, reads_byte, reads_end, nothing_read, ascii_read, ascii_here}

pub allowed_from_lem : (p : Text) → characters_allowed p ≡ allowed_from Between p
unfolding characters_allowed decode allowed_from
allowed_from_lem p = refl

pub allowed_none : characters_allowed [] ≡ true
allowed_none = allowed_from_lem [] ∙ nothing_read

-- What follows an allowed text is read by itself.
after_from : (u : Reading) (x y : Text) → allowed_from u x ≡ true → allowed_from u (x ++ y) ≡ allowed_from Between y
after_from u [] y e = rw (reads_end u e)
after_from u (a ∷ x) y e = reads_byte u a (x ++ y) ∙ go (next u a) (sym (reads_byte u a x) ∙ e) (λ v. after_from v x y)
  where
    go : (n : Option Reading) → allowed_after n x ≡ true → ((v : Reading) → allowed_from v x ≡ true → allowed_from v (x ++ y) ≡ allowed_from Between y)
        → allowed_after n (x ++ y) ≡ allowed_from Between y
    go None f ih = absurd (false≢true f)
    go (Some v) f ih = ih v f

pub allowed_after_lem : (x y : Text) → characters_allowed x ≡ true → characters_allowed (x ++ y) ≡ characters_allowed y
allowed_after_lem x y e = allowed_from_lem (x ++ y) ∙ after_from Between x y (sym (allowed_from_lem x) ∙ e) ∙ sym (allowed_from_lem y)

pub allowed_join : (x y : Text) → characters_allowed x ≡ true → characters_allowed y ≡ true → characters_allowed (x ++ y) ≡ true
allowed_join x y e f = allowed_after_lem x y e ∙ f

-- A byte of ASCII ends the character before it.
before_from : (u : Reading) (x : Text) (a : ℕ) (y : Text) → leb a 0x7F ≡ true → allowed_from u (x ++ a ∷ y) ≡ true → allowed_from u x ≡ true
before_from u [] a y h e = rw (ascii_here a h u y e).0 nothing_read
before_from u (b ∷ x) a y h e = reads_byte u b x ∙ go (next u b) (sym (reads_byte u b (x ++ a ∷ y)) ∙ e) (λ v. before_from v x a y h)
  where
    go : (n : Option Reading) → allowed_after n (x ++ a ∷ y) ≡ true → ((v : Reading) → allowed_from v (x ++ a ∷ y) ≡ true → allowed_from v x ≡ true)
        → allowed_after n x ≡ true
    go None f ih = f
    go (Some v) f ih = ih v f

module _ (a : ℕ) (h : leb a 0x7F ≡ true) where
  pub allowed_ascii : (r : Text) → characters_allowed (a ∷ r) ≡ characters_allowed r
  allowed_ascii r = allowed_from_lem (a ∷ r) ∙ ascii_read a h r ∙ sym (allowed_from_lem r)

  pub allowed_before : (x y : Text) → characters_allowed (x ++ a ∷ y) ≡ true → characters_allowed x ≡ true
  allowed_before x y e = allowed_from_lem x ∙ before_from Between x a y h (sym (allowed_from_lem (x ++ a ∷ y)) ∙ e)

-- A text of ASCII is allowed.
pub ascii_allowed : (p : Text) → is_ascii p ≡ true → characters_allowed p ≡ true
unfolding is_ascii
ascii_allowed [] e = allowed_none
ascii_allowed (a ∷ r) e = allowed_ascii a (and_l (leb a 0x7F) (is_ascii r) e) r ∙ ascii_allowed r (and_r (leb a 0x7F) (is_ascii r) e)
