-- Lemmas for the tests of one character: `is_white_space`, `is_name_character`, `is_two_bytes`, `is_three_bytes` and `is_four_bytes`.
use Rattle.std.specs.Prelude.{Some, None}
use mathlib.Core.Path.{◌≡◌, refl, sym, ap, ◌∙◌}
use mathlib.Core.Bool.{Bool, true, false, not, cond, ◌&&◌, ◌||◌}
use mathlib.Core.List.{[], ◌∷◌}
use Prim.Native.Nat.{ℕ, suc, ◌%◌, ◌≤◌, ◌<◌}
use native.Mathlib.Omega.{arith}
use lib.Dec.{eqb, leb}
use borrow.Author.Tests.{leb-true, lt-leb}
use Rattle.text.specs.Text.{Text}
use Rattle.text.specs.Range.{in_range}
use Rattle.text.proofs.BoolLaws.{and_assoc}
use Rattle.characters.specs.Utf8.{is_scalar_value, Between, Inside, is_continuation, is_shortest, with_bits}
use Rattle.characters.specs.NameCharacter.{is_control, is_white_space, is_name_character, is_allowed, allowed_in, characters_allowed}
use Rattle.characters.proofs.ReadingLaws.{allowed_from, next, allowed_after, reads_byte, nothing_read}
use Rattle.characters.proofs.AllowedLaws.{allowed_from_lem}
use Rattle.characters.proofs.EncodeLaws.{first_2, first_3, first_4}

pub white_space_tests : (c : ℕ) (b : Bool) → b ≡ in_range 0x2000 0x200A c
    → (eqb c 0xA0 || eqb c 0x1680 || b || eqb c 0x2028 || eqb c 0x2029 || eqb c 0x202F || eqb c 0x205F || eqb c 0x3000) ≡ is_white_space c
white_space_tests c b e = rw e

pub name_tests : (c : ℕ) (s t w : Bool) → s ≡ in_range 0xD800 0xDFFF c → t ≡ in_range 0x80 0x9F c → w ≡ is_white_space c
    → (leb c 0x10FFFF && not s && leb 0x80 c && not (t || w)) ≡ is_name_character c
unfolding is_name_character is_scalar_value
name_tests c s t w e f g = rw (e, f, g) (and_assoc (leb c 0x10FFFF && not (in_range 0xD800 0xDFFF c)) (leb 0x80 c) (not (is_control c || is_white_space c)))

-- Of the characters outside ASCII, the allowed ones are those that a name may have.
shortest_name : (least c : ℕ) → 0x80 ≤ least → (is_shortest least c && is_allowed c) ≡ (leb least c && is_name_character c)
unfolding is_name_character
shortest_name least c h = go (leb least c) refl
  where
    scalar : (s r : Bool) → (s && (s && r)) ≡ (s && r)
    scalar true r = refl
    scalar false r = refl

    go : (b : Bool) → leb least c ≡ b → (b && is_scalar_value c && is_allowed c) ≡ (b && is_name_character c)
    go true e =
        let l : 0x7F < c = omega (arith, leb-true least c e) in
        rw (lt-leb c 0x7F l) (scalar (is_scalar_value c) (leb 0x80 c && not (is_control c || is_white_space c)))
    go false e = refl

-- The last byte of a character, and the ones before it.
module _ (least bits b : ℕ) where
  last_byte : 0x80 ≤ least → allowed_from (Inside 0 least bits) (b ∷ []) ≡ (is_continuation b && (leb least (with_bits bits b) && is_name_character (with_bits bits b)))
  unfolding next
  last_byte h =
      reads_byte (Inside 0 least bits) b []
      ∙ only (is_continuation b && is_shortest least c && is_allowed c)
      ∙ and_assoc (is_continuation b) (is_shortest least c) (is_allowed c)
      ∙ ap (λ (x : Bool). is_continuation b && x) (shortest_name least c h)
    where
      c : ℕ
      c = with_bits bits b

      only : (x : Bool) → allowed_after (cond x (Some Between) None) [] ≡ x
      only true = nothing_read
      only false = refl

  next_byte : (more : ℕ) (t : Text) → allowed_from (Inside (suc more) least bits) (b ∷ t) ≡ (is_continuation b && allowed_from (Inside more least (with_bits bits b)) t)
  unfolding next
  next_byte more t = reads_byte (Inside (suc more) least bits) b t ∙ go (is_continuation b)
    where
      go : (x : Bool) → allowed_after (cond x (Some (Inside more least (with_bits bits b))) None) t ≡ (x && allowed_from (Inside more least (with_bits bits b)) t)
      go true = refl
      go false = refl

-- The first byte.
module _ (a : ℕ) (t : Text) where
  pub begins_2 : 192 ≤ a → a ≤ 223 → characters_allowed (a ∷ t) ≡ allowed_from (Inside 0 0x80 (a % 32)) t
  unfolding allowed_from
  begins_2 h k = allowed_from_lem (a ∷ t) ∙ ap allowed_in (first_2 a t h k)

  pub begins_3 : 224 ≤ a → a ≤ 239 → characters_allowed (a ∷ t) ≡ allowed_from (Inside 1 0x800 (a % 16)) t
  unfolding allowed_from
  begins_3 h k = allowed_from_lem (a ∷ t) ∙ ap allowed_in (first_3 a t h k)

  pub begins_4 : 240 ≤ a → a ≤ 247 → characters_allowed (a ∷ t) ≡ allowed_from (Inside 2 0x10000 (a % 8)) t
  unfolding allowed_from
  begins_4 h k = allowed_from_lem (a ∷ t) ∙ ap allowed_in (first_4 a t h k)

-- The tests of two, three and four bytes. The code combines them from the left.
module _ (a b c : ℕ) (k n : Bool) (ek : k ≡ is_continuation b) (en : n ≡ is_name_character c) where
  pub two_tests : 192 ≤ a → a ≤ 223 → c ≡ with_bits (a % 32) b → (k && leb 0x80 c && n) ≡ characters_allowed (a ∷ b ∷ [])
  two_tests h l e =
      and_assoc k (leb 0x80 c) n
      ∙ rw (ek, en, e) (sym (begins_2 a (b ∷ []) h l ∙ last_byte 0x80 (a % 32) b (omega arith)))

  pub three_tests : (d x : ℕ) (j : Bool) → 224 ≤ a → a ≤ 239 → x ≡ with_bits (a % 16) b → c ≡ with_bits x d → j ≡ is_continuation d
      → (k && j && leb 0x800 c && n) ≡ characters_allowed (a ∷ b ∷ d ∷ [])
  three_tests d x j h l f e ej =
      left k j (leb 0x800 c) n
      ∙ rw (ek, ej, en, e, f)
      (sym (begins_3 a (b ∷ d ∷ []) h l ∙ next_byte 0x800 (a % 16) b 0 (d ∷ []) ∙ ap (λ (y : Bool). is_continuation b && y) (last_byte 0x800 (with_bits (a % 16) b) d (omega arith))))
    where
      left : (p q r s : Bool) → (p && q && r && s) ≡ (p && (q && (r && s)))
      left true q r s = and_assoc q r s
      left false q r s = refl

  pub four_tests : (d f x y : ℕ) (i j : Bool) → 240 ≤ a → a ≤ 247 → x ≡ with_bits (a % 8) b → y ≡ with_bits x d → c ≡ with_bits y f → i ≡ is_continuation d
      → j ≡ is_continuation f → (k && i && j && leb 0x10000 c && n) ≡ characters_allowed (a ∷ b ∷ d ∷ f ∷ [])
  four_tests d f x y i j h l ex ey e ei ej =
      left k i j (leb 0x10000 c) n
      ∙ rw (ek, ei, ej, en, e, ey, ex)
      (sym
      (begins_4 a (b ∷ d ∷ f ∷ []) h l ∙ next_byte 0x10000 (a % 8) b 1 (d ∷ f ∷ [])
      ∙ ap (λ (z : Bool). is_continuation b && z)
      (next_byte 0x10000 (with_bits (a % 8) b) d 0 (f ∷ [])
      ∙ ap (λ (z : Bool). is_continuation d && z) (last_byte 0x10000 (with_bits (with_bits (a % 8) b) d) f (omega arith)))))
    where
      left : (p q r s t : Bool) → (p && q && r && s && t) ≡ (p && (q && (r && (s && t))))
      left true true r s t = and_assoc r s t
      left true false r s t = refl
      left false q r s t = refl

pub ruleset characters = (white_space_tests, name_tests, two_tests, three_tests, four_tests)
