-- Method: How the check goes through a text: one character at a time, by its first byte.
use Rattle.std.specs.Prelude.{ℕ, ◌≡◌, not, cond, ◌&&◌, [], ◌∷◌, eqb, leb, take, drop}
use Rattle.text.specs.Text.{Text}
use Rattle.text.specs.Range.{in_range}
use Rattle.characters.specs.NameCharacter.{characters_allowed}

-- The number of bytes of a character that begins with the byte a; 0 if none does.
abbrev pub length_by_first : ℕ → ℕ
length_by_first a = cond (leb a 0x7F) 1 (cond (in_range 0xC0 0xDF a) 2 (cond (in_range 0xE0 0xEF a) 3 (cond (in_range 0xF0 0xF7 a) 4 0)))

-- The number of bytes of the character at the beginning of a text; 0 if there is none, or one that no name may have.
unfoldable pub character_len : Text → ℕ
character_len [] = 0
character_len (a ∷ r) = cond (characters_allowed (take (length_by_first a) (a ∷ r))) (length_by_first a) 0

-- Theorem (proofs/LenLaws.antt): a text is allowed exactly if there is such a character at its beginning and what follows it is allowed.
abbrev pub AllowedByCharacter : Type 0
AllowedByCharacter =
    (a : ℕ) (r : Text) → characters_allowed (a ∷ r) ≡ (not (eqb (character_len (a ∷ r)) 0) && characters_allowed (drop (character_len (a ∷ r)) (a ∷ r)))
