-- Meaning: No call cuts a character: what is made from legal texts is well-formed UTF-8. Requirements: "Joins, and stripping after a `}`, take such
-- characters for name characters".
use Rattle.std.specs.Prelude.{ℕ, ◌≡◌, true, List, [], get_or, Some}
use Rattle.text.specs.Text.{Text}
use Rattle.characters.specs.Utf8.{Encoded}
use Rattle.path_grammar.specs.Legal.{legal}
use Rattle.path_join.specs.Join.{replace_prefix}
use Rattle.path_parts.specs.Parent.{parent, prim_path, ancestors}
use Rattle.path_parts.specs.Strip.{strip}
use Rattle.path_target.specs.Target.{embedded_target}
use Rattle.refusal.specs.Outcome.{path, checked}

-- The text is the bytes of characters, one after the other.
pub record WellFormed (p : Text) : Type 0 where
  pub characters : List ℕ
  pub encoded : Encoded p characters

-- Theorem (proofs/Theorem.antt).
pub record MadeWellFormed : Type 0 where
  -- Every legal text, with its brackets.
  pub legal_text : (p : Text) → legal p ≡ true → WellFormed p
  -- What is cut out of a legal path.
  pub parents : (p q : Text) → legal p ≡ true → parent p ≡ Some q → WellFormed q
  pub all_ancestors : (p : Text) (i : ℕ) → legal p ≡ true → WellFormed (get_or (ancestors p) i [])
  pub prim_paths : (p : Text) → legal p ≡ true → WellFormed (prim_path p)
  pub stripped : (p : Text) → legal p ≡ true → WellFormed (strip p)
  pub targets : (p t : Text) → legal p ≡ true → embedded_target p ≡ Some t → WellFormed t
  -- What is put together, also where question 8 refuses it.
  pub replaced : (p s t q : Text) → legal p ≡ true → legal s ≡ true → legal t ≡ true → replace_prefix p s t ≡ Some q → WellFormed q
  -- Whatever passes question 8: so every path that a map, a relocate list, a chain or a route makes.
  pub accepted : (q r : Text) → checked q ≡ path r → WellFormed r
