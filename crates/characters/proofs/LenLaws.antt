-- The theorem that a text is allowed exactly if the character at its beginning and what follows it are.
use Rattle.std.specs.Prelude.{Some}
use mathlib.Core.Path.{◌≡◌, refl, sym, ◌∙◌}
use mathlib.Core.Bool.{Bool, true, false, not, cond, ◌&&◌}
use mathlib.Core.List.{[], ◌∷◌}
use Prim.Native.Nat.{ℕ, zero, suc, ◌%◌}
use native.Mathlib.Omega.{arith}
use lib.Dec.{eqb, leb}
use borrow.Author.Tests.{ne_eqb}
use lib.ListN.{take, drop}
use Rattle.text.specs.Text.{Text}
use Rattle.text.specs.Range.{in_range}
use Rattle.characters.specs.Utf8.{Between, Inside, is_continuation, is_shortest, with_bits}
use Rattle.characters.specs.NameCharacter.{is_allowed, characters_allowed}
use Rattle.characters.specs.CharacterLen.{character_len, AllowedByCharacter}
use Rattle.characters.proofs.ReadingLaws.{allowed_from, next, allowed_after, reads_byte, cut_off, nothing_read}
use Rattle.characters.proofs.AllowedLaws.{allowed_from_lem}

-- The rest of a character, and what follows it.
pub by_character : (more least bits : ℕ) (r : Text)
    → allowed_from (Inside more least bits) r ≡ (allowed_from (Inside more least bits) (take (suc more) r) && allowed_from Between (drop (suc more) r))
unfolding next
by_character zero least bits [] = rw (cut_off 0 least bits)
by_character (suc more) least bits [] = rw (cut_off (suc more) least bits)
by_character zero least bits (a ∷ r) =
    reads_byte (Inside 0 least bits) a r ∙ go (is_continuation a && is_shortest least c && is_allowed c) refl
  where
    c : ℕ
    c = with_bits bits a

    go : (b : Bool) → (is_continuation a && is_shortest least c && is_allowed c) ≡ b
        → allowed_after (next (Inside 0 least bits) a) r ≡ (allowed_from (Inside 0 least bits) (a ∷ []) && allowed_from Between r)
    go true h = rw (reads_byte (Inside 0 least bits) a [], h, nothing_read)
    go false h = rw (reads_byte (Inside 0 least bits) a [], h)
by_character (suc more) least bits (a ∷ r) =
    reads_byte (Inside (suc more) least bits) a r ∙ go (is_continuation a) refl (by_character more least (with_bits bits a) r)
  where
    c : ℕ
    c = with_bits bits a

    go : (b : Bool) → is_continuation a ≡ b
        → allowed_from (Inside more least c) r ≡ (allowed_from (Inside more least c) (take (suc more) r) && allowed_from Between (drop (suc more) r))
        → allowed_after (next (Inside (suc more) least bits) a) r ≡ (allowed_from (Inside (suc more) least bits) (a ∷ take (suc more) r) && allowed_from Between (drop (suc more) r))
    go true h ih = rw (reads_byte (Inside (suc more) least bits) a (take (suc more) r), h) ih
    go false h ih = rw (reads_byte (Inside (suc more) least bits) a (take (suc more) r), h)

-- By the first byte: a character that has `more` bytes after the second one.
module _ (a : ℕ) (r : Text) where
  split : (n : ℕ) (whole first rest : Bool) → whole ≡ (first && rest) → eqb n 0 ≡ false → (t : ℕ → Bool) → t n ≡ rest
      → whole ≡ (not (eqb (cond first n 0) 0) && t (cond first n 0))
  split n whole true rest e z t s = rw (z, s) e
  split n whole false rest e z t s = e

  longer : (more least bits : ℕ) → next Between a ≡ Some (Inside more least bits)
      → characters_allowed (a ∷ r)
      ≡ (not (eqb (cond (characters_allowed (a ∷ take (suc more) r)) (suc (suc more)) 0) 0) && characters_allowed (drop (cond (characters_allowed (a ∷ take (suc more) r)) (suc (suc more)) 0) (a ∷ r)))
  longer more least bits h =
      split (suc (suc more)) (characters_allowed (a ∷ r)) (characters_allowed (a ∷ take (suc more) r)) (characters_allowed (drop (suc more) r))
      (allowed_from_lem (a ∷ r) ∙ reads_byte Between a r ∙ rw h
      (by_character more least bits r
      ∙ rw (allowed_from_lem (a ∷ take (suc more) r), reads_byte Between a (take (suc more) r), h, allowed_from_lem (drop (suc more) r))))
      (ne_eqb (suc (suc more)) 0 (λ e. omega (arith, e))) (λ (n : ℕ). characters_allowed (drop n (a ∷ r))) refl

pub allowed_by_character : AllowedByCharacter
unfolding character_len next
allowed_by_character a r = go (leb a 0x7F) (in_range 0xC0 0xDF a) (in_range 0xE0 0xEF a) (in_range 0xF0 0xF7 a) refl refl refl refl
  where
    Goal : Type 0
    Goal = characters_allowed (a ∷ r) ≡ (not (eqb (character_len (a ∷ r)) 0) && characters_allowed (drop (character_len (a ∷ r)) (a ∷ r)))

    go : (one two three four : Bool) → leb a 0x7F ≡ one → in_range 0xC0 0xDF a ≡ two → in_range 0xE0 0xEF a ≡ three → in_range 0xF0 0xF7 a ≡ four → Goal
    go true two three four h i j k = one_byte
      where
        one_byte : Goal
        one_byte =
            let f : characters_allowed (a ∷ []) ≡ true = allowed_from_lem (a ∷ []) ∙ reads_byte Between a [] ∙ rw h nothing_read in
            rw (h, f) (allowed_from_lem (a ∷ r) ∙ reads_byte Between a r ∙ rw h (sym (allowed_from_lem r)))
    go false true three four h i j k = rw (h, i) (longer a r 0 0x80 (a % 32) (rw (h, i)))
    go false false true four h i j k = rw (h, i, j) (longer a r 1 0x800 (a % 16) (rw (h, i, j)))
    go false false false true h i j k = rw (h, i, j, k) (longer a r 2 0x10000 (a % 8) (rw (h, i, j, k)))
    go false false false false h i j k = rw (h, i, j, k) (allowed_from_lem (a ∷ r) ∙ reads_byte Between a r ∙ rw (h, i, j, k) (none_allowed (characters_allowed (take 0 (a ∷ r)))))
      where
        none_allowed : (b : Bool) → false ≡ (not (eqb (cond b 0 0) 0) && characters_allowed (drop (cond b 0 0) (a ∷ r)))
        none_allowed true = refl
        none_allowed false = refl
