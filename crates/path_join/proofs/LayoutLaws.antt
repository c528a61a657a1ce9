-- The layout of a join, as the code computes it: tests as numbers, and texts by their length and their first or last byte.
use mathlib.Core.Path.{◌≡◌, refl, sym, ◌∙◌}
use mathlib.Core.Bool.{Bool, true, false, not, cond, ◌&&◌, ◌||◌}
use mathlib.Core.List.{[], ◌∷◌}
use Prim.Native.Nat.{ℕ, ◌+◌, ◌*◌, ◌-◌, ◌≤◌}
use native.Mathlib.Omega.{arith}
use lib.Dec.{eqb}
use mir.Val.{Fits, bool_byte}
use mir.Syntax.{w64}
use mir.Facts.{Fits-below}
use lib.ListN.{length, drop}
use borrow.Author.Tests.{ne_eqb}
use Rattle.text.specs.Text.{Text, ends_with_byte}
use Rattle.text.proofs.BoolLaws.{and_no, and_yes, and_assoc}
use Rattle.text.proofs.TextLaws.{last_some}
use Rattle.path_grammar.specs.Legal.{is_root, is_name_byte}
use Rattle.path_join.specs.Join.{is_child, ends_with_separator, separator_len, body}
use Rattle.path_join.specs.Layout.{as_number, first_byte, last_byte, separator_by, LaysOut}
use Rattle.path_join.proofs.SeparatorLaws.{separator_short_lem}

-- Tests as numbers: subtraction from 1 is negation, the product is conjunction, and the sum of two tests that exclude each other is their
-- disjunction.
pub number_short : (b : Bool) → as_number b ≤ 1
unfolding as_number
number_short true = omega arith
number_short false = omega arith

pub number_fits : (b : Bool) → Fits w64 (as_number b)
number_fits b = Fits-below tt (number_short b)

pub number_is : (b : Bool) → bool_byte b ≡ as_number b
unfolding as_number
number_is true = refl
number_is false = refl

pub number_not : (b : Bool) → 1 - as_number b ≡ as_number (not b)
unfolding as_number
number_not true = refl
number_not false = refl

pub number_and : (b c : Bool) → as_number b * as_number c ≡ as_number (b && c)
unfolding as_number
number_and true true = refl
number_and true false = refl
number_and false true = refl
number_and false false = refl

pub number_choice : (o x y : Bool) → as_number (o && x) + as_number (not o && y) ≡ as_number (cond o x y)
unfolding as_number
number_choice true true y = refl
number_choice true false y = refl
number_choice false x true = refl
number_choice false x false = refl

-- The length that `separator_len` computes, and its parts: the product for the old prefix `/`, the two for any other, and their sum.
pub after_root : (o n : Bool) → as_number o * (1 - as_number n) ≡ as_number (o && not n)
after_root o n = rw (number_not n) (number_and o (not n))

pub child_after_prim : (o c : Bool) → (1 - as_number o) * as_number c ≡ as_number (not o && c)
child_after_prim o c = rw (number_not o) (number_and (not o) c)

pub after_prim : (o c d : Bool) → (1 - as_number o) * as_number c * (1 - as_number d) ≡ as_number (not o && (c && not d))
after_prim o c d = rw (child_after_prim o c, number_not d, number_and (not o && c) (not d), and_assoc (not o) c (not d))

pub after_prefix : (o n c d : Bool)
    → as_number o * (1 - as_number n) + (1 - as_number o) * as_number c * (1 - as_number d) ≡ as_number (cond o (not n) (c && not d))
after_prefix o n c d = rw (after_root o n, after_prim o c d) (number_choice o (not n) (c && not d))

pub separator_is_lem : (f o n c d : Bool)
    → as_number f * (as_number o * (1 - as_number n) + (1 - as_number o) * as_number c * (1 - as_number d)) ≡ separator_by f o n c d
unfolding separator_by
separator_is_lem f o n c d = rw (after_prefix o n c d) (number_and f (cond o (not n) (c && not d)))

pub separator_fits : (f o n c d : Bool) → Fits w64 (separator_by f o n c d)
unfolding separator_by
separator_fits f o n c d = number_fits (f && cond o (not n) (c && not d))

-- The tests on a prefix, by its length and its last byte.
pub root_by_last : (s : Text) → (eqb (length s) 1 && eqb (last_byte s) 47) ≡ is_root s
unfolding last_byte
root_by_last [] = refl
root_by_last (a ∷ []) = sym (and_yes (eqb a 47))
root_by_last (a ∷ b ∷ s) = rw (ne_eqb (length (a ∷ b ∷ s)) 1 (λ z. omega arith)) (sym (and_no (eqb a 47)))

pub closed_by_last : (s : Text) → eqb (last_byte s) 125 ≡ ends_with_byte 125 s
unfolding ends_with_byte last_byte
closed_by_last [] = refl
closed_by_last (a ∷ s) = last_some 125 (a ∷ s) (λ z. omega arith)

-- The layout, by the tests that decide it.
separator_by_tests : (s t r : Text)
    → separator_by (not (eqb (length r) 0)) (is_root s) (is_root t) (is_child s (first_byte r)) (ends_with_separator t) ≡ separator_len s t r
unfolding separator_by separator_len first_byte
separator_by_tests s t [] = refl
separator_by_tests s t (a ∷ r) =
    rw (ne_eqb (length (a ∷ r)) 0 (λ z. omega arith)) (go (is_root s) (is_root t) (is_child s a) (ends_with_separator t))
  where
    go : (o n c d : Bool) → as_number (cond o (not n) (c && not d)) ≡ cond o (cond n 0 1) (cond (not c) 0 (cond d 0 1))
    go true true c d = refl
    go true false c d = refl
    go false n false d = refl
    go false n true true = refl
    go false n true false = refl

body_by_tests : (s r : Text) → drop (as_number (not (is_root s) && eqb (first_byte r) 47)) r ≡ body s r
unfolding body as_number first_byte
body_by_tests s [] = rw (and_no (not (is_root s)))
body_by_tests s (a ∷ r) = go (not (is_root s) && eqb a 47)
  where
    go : (b : Bool) → drop (as_number b) (a ∷ r) ≡ cond b r (a ∷ r)
    go true = refl
    go false = refl

body_inside_lem : (b : Bool) (r : Text) → as_number (b && eqb (first_byte r) 47) ≤ length r
unfolding as_number first_byte
body_inside_lem b [] = rw (and_no b) (omega arith)
body_inside_lem b (a ∷ r) = omega (arith, number_short (b && eqb a 47))

-- What `layout_of` returns: a is the first byte of the remainder, o and l are the last bytes of the old and the new prefix, and i tells whether a
-- name may contain a.
module _ (s t r : Text) (a o l : ℕ) (i : Bool) (ea : a ≡ first_byte r) (eo : o ≡ last_byte s) (el : l ≡ last_byte t) (ei : i ≡ is_name_byte a) where
  old_root : (eqb (length s) 1 && eqb o 47) ≡ is_root s
  old_root = rw eo (root_by_last s)

  new_root : (eqb (length t) 1 && eqb l 47) ≡ is_root t
  new_root = rw el (root_by_last t)

  child : (eqb a 47 || eqb o 125 && i) ≡ is_child s (first_byte r)
  unfolding is_child
  child = rw (eo, closed_by_last s, ei, ea)

  direct : (eqb (length t) 1 && eqb l 47 || eqb l 125) ≡ ends_with_separator t
  unfolding ends_with_separator
  direct = rw (new_root, el, closed_by_last t)

  pub laid_out : (k n : ℕ)
      → k ≡ separator_by (not (eqb (length r) 0)) (eqb (length s) 1 && eqb o 47) (eqb (length t) 1 && eqb l 47) (eqb a 47 || eqb o 125 && i)
      (eqb (length t) 1 && eqb l 47 || eqb l 125)
      → n ≡ as_number (not (eqb (length s) 1 && eqb o 47) && eqb a 47)
      → LaysOut s t r k n
  laid_out k n e f =
      let separator : k ≡ separator_len s t r = e ∙ rw (direct, old_root, new_root, child) (separator_by_tests s t r) in
      let start : n ≡ as_number (not (is_root s) && eqb (first_byte r) 47) = f ∙ rw (old_root, ea) in
      record {
        separator_is = separator;
        separator_short = rw separator (separator_short_lem s t r);
        body_is = rw start (body_by_tests s r);
        body_inside = rw start (body_inside_lem (not (is_root s)) r);
      }

-- The byte that `first_byte` or `last_byte` returns for the empty text.
pub no_first_byte : (s : Text) → length s ≡ 0 → 0 ≡ first_byte s
unfolding first_byte
no_first_byte [] e = refl
no_first_byte (a ∷ s) e = absurd (omega arith)

pub no_last_byte : (s : Text) → length s ≡ 0 → 0 ≡ last_byte s
unfolding last_byte
no_last_byte [] e = refl
no_last_byte (a ∷ s) e = absurd (omega arith)
