-- A text is read byte by byte: what each byte leads to, and when the text is allowed from there on.
use Rattle.std.specs.Prelude.{Option, Some, None}
use mathlib.Core.Path.{◌≡◌, refl, sym, ◌∙◌}
use mathlib.Core.Bool.{Bool, true, false, cond, ◌&&◌, false≢true}
use mathlib.Core.List.{List, [], ◌∷◌}
use Prim.Native.Nat.{ℕ, zero, suc, ◌%◌}
use native.Mathlib.Omega.{arith}
use lib.Dec.{leb}
use borrow.Author.Tests.{leb-true}
use Rattle.text.specs.Text.{Text}
use Rattle.text.specs.Range.{in_range}
use Rattle.text.proofs.BoolLaws.{and_no}
use Rattle.text.proofs.RangeLaws.{within_below}
use Rattle.characters.specs.Utf8.{Reading, Between, Inside, is_continuation, is_shortest, with_bits, prepend, decode_from, is_scalar_value}
use Rattle.characters.specs.NameCharacter.{is_allowed, is_name_character, are_allowed, allowed_in}

-- The text is allowed, read from the middle of a text on.
unfoldable pub allowed_from : Reading → Text → Bool
unfolding are_allowed decode_from
allowed_from u r = allowed_in (decode_from u r)

-- Where the reader is after the byte a; none if no allowed text has this byte there.
unfoldable pub next : Reading → ℕ → Option Reading
unfolding is_scalar_value is_name_character
next Between a =
    cond (leb a 0x7F) (Some Between)
    (cond (in_range 0xC0 0xDF a) (Some (Inside 0 0x80 (a % 32)))
    (cond (in_range 0xE0 0xEF a) (Some (Inside 1 0x800 (a % 16)))
    (cond (in_range 0xF0 0xF7 a) (Some (Inside 2 0x10000 (a % 8))) None)))
next (Inside zero least bits) a =
    cond (is_continuation a && is_shortest least (with_bits bits a) && is_allowed (with_bits bits a)) (Some Between) None
next (Inside (suc more) least bits) a = cond (is_continuation a) (Some (Inside more least (with_bits bits a))) None

-- The text is allowed from there on.
abbrev pub allowed_after : Option Reading → Text → Bool
allowed_after None r = false
allowed_after (Some u) r = allowed_from u r

prepend_allowed : (c : ℕ) (d : Option (List ℕ)) → allowed_in (prepend c d) ≡ (is_allowed c && allowed_in d)
unfolding are_allowed
prepend_allowed c None = sym (and_no (is_allowed c))
prepend_allowed c (Some r) = refl

pub reads_byte : (u : Reading) (a : ℕ) (r : Text) → allowed_from u (a ∷ r) ≡ allowed_after (next u a) r
unfolding allowed_from next decode_from
reads_byte Between a r = go (leb a 0x7F) (in_range 0xC0 0xDF a) (in_range 0xE0 0xEF a) (in_range 0xF0 0xF7 a) refl
  where
    go : (one two three four : Bool) → leb a 0x7F ≡ one
        → allowed_in (cond one (prepend a (decode_from Between r)) (cond two (decode_from (Inside 0 0x80 (a % 32)) r) (cond three (decode_from (Inside 1 0x800 (a % 16)) r) (cond four (decode_from (Inside 2 0x10000 (a % 8)) r) None))))
        ≡ allowed_after (cond one (Some Between) (cond two (Some (Inside 0 0x80 (a % 32))) (cond three (Some (Inside 1 0x800 (a % 16))) (cond four (Some (Inside 2 0x10000 (a % 8))) None)))) r
    go true two three four h = prepend_allowed a (decode_from Between r) ∙ rw h
    go false true three four h = refl
    go false false true four h = refl
    go false false false true h = refl
    go false false false false h = refl
reads_byte (Inside zero least bits) a r = go (is_continuation a && is_shortest least c) (is_allowed c) refl
  where
    c : ℕ
    c = with_bits bits a

    go : (shortest allowed : Bool) → is_allowed c ≡ allowed
        → allowed_in (cond shortest (prepend c (decode_from Between r)) None) ≡ allowed_after (cond (shortest && allowed) (Some Between) None) r
    go true true h = prepend_allowed c (decode_from Between r) ∙ rw h
    go true false h = prepend_allowed c (decode_from Between r) ∙ rw h
    go false allowed h = refl
reads_byte (Inside (suc more) least bits) a r = go (is_continuation a)
  where
    go : (b : Bool) → allowed_in (cond b (decode_from (Inside more least (with_bits bits a)) r) None) ≡ allowed_after (cond b (Some (Inside more least (with_bits bits a))) None) r
    go true = refl
    go false = refl

-- An allowed text ends between two characters.
pub reads_end : (u : Reading) → allowed_from u [] ≡ true → u ≡ Between
unfolding allowed_from decode_from
reads_end Between e = refl
reads_end (Inside more least bits) e = absurd (false≢true e)

pub cut_off : (more least bits : ℕ) → allowed_from (Inside more least bits) [] ≡ false
unfolding allowed_from decode_from
cut_off more least bits = refl

pub nothing_read : allowed_from Between [] ≡ true
unfolding allowed_from decode_from are_allowed
nothing_read = refl

-- A byte of ASCII is a character, and lies in none.
module _ (a : ℕ) (h : leb a 0x7F ≡ true) where
  pub ascii_between : next Between a ≡ Some Between
  unfolding next
  ascii_between = rw h

  pub ascii_inside : (more least bits : ℕ) → next (Inside more least bits) a ≡ None
  unfolding next
  ascii_inside zero least bits = rw (within_below 0x80 0xBF a (omega (arith, leb-true a 0x7F h)))
  ascii_inside (suc more) least bits = rw (within_below 0x80 0xBF a (omega (arith, leb-true a 0x7F h)))

  pub ascii_read : (r : Text) → allowed_from Between (a ∷ r) ≡ allowed_from Between r
  ascii_read r = reads_byte Between a r ∙ rw ascii_between

  -- If an allowed text goes on with such a byte, the reader is between two characters.
  pub ascii_here : (u : Reading) (r : Text) → allowed_from u (a ∷ r) ≡ true → (u ≡ Between) × (allowed_from Between r ≡ true)
  ascii_here Between r e = (refl, sym (ascii_read r) ∙ e)
  ascii_here (Inside more least bits) r e =
      absurd (false≢true (rw (ascii_inside more least bits) at (sym (reads_byte (Inside more least bits) a r) ∙ e)))
