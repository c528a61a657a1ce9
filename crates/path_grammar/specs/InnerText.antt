-- Method: How the check finds the path in brackets: by the last byte, then by the first `[`.
use Rattle.std.specs.Prelude.{ℕ, suc, ◌≡◌, true, false, cond, ◌&&◌, [], drop}
use Rattle.text.specs.Text.{Text, is_nil, ends_with_byte, drop_last}
use Rattle.text.specs.Bytes.{close_bracket}
use Rattle.path_grammar.specs.Own.{own_part, target_part, has_property}
use Rattle.path_grammar.specs.Legal.{legal_own, legal_within}

-- The text in the brackets of a path whose own part is legal and has a property; empty if there is no such text.
unfoldable pub inner_text : Text → Text
inner_text p = cond (ends_with_byte close_bracket p && (legal_own (own_part p) && has_property p)) (drop_last (drop 1 (target_part p))) []

-- Theorem (proofs/InnerLaws.antt): a path with such a text is legal exactly if that text is, one level deeper, and not at all at depth 0; any
-- other is legal exactly if it is so without brackets.
pub record WithinByInner : Type 0 where
  pub without : (d : ℕ) (p : Text) → is_nil (inner_text p) ≡ true → legal_within d p ≡ legal_own p
  pub deepest : (p : Text) → is_nil (inner_text p) ≡ false → legal_within 0 p ≡ false
  pub deeper : (d : ℕ) (p : Text) → is_nil (inner_text p) ≡ false → legal_within (suc d) p ≡ legal_within d (inner_text p)
