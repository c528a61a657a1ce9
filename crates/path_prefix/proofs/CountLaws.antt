-- Lemmas about the number of elements, with or without selections.
use mathlib.Core.Path.{◌≡◌, refl}
use mathlib.Core.Bool.{Bool, true, false, cond, ◌&&◌, ◌||◌, false≢true}
use mathlib.Core.List.{[], ◌∷◌, ◌++◌}
use Prim.Native.Nat.{ℕ, suc, ◌+◌, ◌≤◌}
use native.Mathlib.Omega.{arith}
use lib.Dec.{eqb}
use lib.ListN.{length}
use Rattle.text.specs.Text.{Text, ends_with_byte}
use Rattle.path_grammar.specs.Legal.{is_name_byte, is_root, is_end}
use Rattle.path_grammar.proofs.LegalLaws.{legal_last, end_legal}
use Rattle.path_prefix.specs.Elements.{starts_element, count_elements}

-- A text has no more elements than bytes.
pub count_short : (f : Bool) (s : Text) → count_elements f s ≤ length s
unfolding count_elements
count_short f [] = omega arith
count_short f (a ∷ s) = go (starts_element f a s) (count_short f s)
  where
    go : (b : Bool) → count_elements f s ≤ length s → cond b 1 0 + count_elements f s ≤ suc (length s)
    go true ih = omega arith
    go false ih = omega arith

-- A text has no fewer elements when more bytes follow.
begins_more : (f : Bool) (a : ℕ) (s r : Text) → starts_element f a s ≡ true → starts_element f a (s ++ r) ≡ true
begins_more f a [] [] h = h
begins_more f a [] (x ∷ r) h = go (eqb a 47) (eqb a 123 && f) (eqb a 125) (is_name_byte x) h
  where
    go : (t o c n : Bool) → (t && false || o || c && false) ≡ true → (t && true || o || c && n) ≡ true
    go true o c n h = refl
    go false true c n h = refl
    go false false true n h = absurd (false≢true h)
    go false false false n h = h
begins_more f a (b ∷ s) r h = h

pub count_more : (f : Bool) (s r : Text) → count_elements f s ≤ count_elements f (s ++ r)
unfolding count_elements
count_more f [] r = omega arith
count_more f (a ∷ s) r = go (starts_element f a s) (starts_element f a (s ++ r)) (begins_more f a s r) (count_more f s r)
  where
    go : (b c : Bool) → (b ≡ true → c ≡ true) → count_elements f s ≤ count_elements f (s ++ r) → cond b 1 0 + count_elements f s ≤ cond c 1 0 + count_elements f (s ++ r)
    go true true h ih = omega arith
    go true false h ih = absurd (false≢true (h refl))
    go false true h ih = omega arith
    go false false h ih = omega arith

-- `/` has no element.
pub count_root : (f : Bool) → count_elements f (47 ∷ []) ≡ 0
unfolding count_elements
count_root f = refl

-- The elements of a concatenation are those of its parts if no element begins at the last byte of the first part.
pub count_app : (f : Bool) (s : Text) (c : ℕ) (y : Text) → is_name_byte c ≡ false → ends_with_byte 47 s ≡ false
    → count_elements f (s ++ c ∷ y) ≡ count_elements f s + count_elements f (c ∷ y)
unfolding count_elements ends_with_byte
count_app f [] c y t l = omega arith
count_app f (a ∷ []) c y t l = rw (l, t) (omega arith)
count_app f (a ∷ b ∷ s) c y t l = rw (count_app f (b ∷ s) c y t l) (omega arith)

-- That holds after every end except `/`.
pub count_after : (f : Bool) (s : Text) (c : ℕ) (y : Text) → is_name_byte c ≡ false → is_end s ≡ true → is_root s ≡ false
    → count_elements f (s ++ c ∷ y) ≡ count_elements f s + count_elements f (c ∷ y)
count_after f s c y t e n = count_app f s c y t (legal_last s (end_legal s e) n)
