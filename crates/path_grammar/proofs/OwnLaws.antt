-- The own part and the target part of a path. The code, and the proofs that follow it, read a text byte by byte, and get from there to
-- `has_variant_selection` and `has_property` and back by these lemmas.
use mathlib.Core.Path.{◌≡◌, refl, ap, ◌∙◌}
use mathlib.Core.Logic.{◌↔◌}
use mathlib.Core.Bool.{true, false, not}
use mathlib.Core.List.{[], ◌∷◌, ◌++◌, append-nil}
use Prim.Native.Nat.{ℕ, ◌≤◌}
use lib.ListN.{length, take, drop}
use Rattle.text.specs.Text.{Text, is_nil, lacks_byte, take_until, drop_until}
use Rattle.text.proofs.BoolLaws.{not_false}
use Rattle.text.proofs.TextLaws.{lacks_append, lacks_before}
use Rattle.text.proofs.UntilLaws.{until_parts, until_lacks, take_until_after, drop_until_after, take_until_all, drop_until_none, drop_until_lacks, take_until_slice, drop_until_slice, take_until_length, take_drop_until, drop_drop_until, drop_until_head}
use Rattle.path_grammar.specs.Own.{own_part, target_part, has_variant_selection, has_property}

module _ (p : Text) where
  -- The two parts make up the path, and the own part has no bracket.
  pub own_parts : own_part p ++ target_part p ≡ p
  unfolding own_part target_part
  own_parts = until_parts 91 p

  pub own_lacks : lacks_byte 91 (own_part p) ≡ true
  unfolding own_part
  own_lacks = until_lacks 91 p

  -- A text without brackets is its own part.
  pub own_all : lacks_byte 91 p ≡ true → own_part p ≡ p
  unfolding own_part
  own_all h = take_until_all 91 p h

  pub target_none : lacks_byte 91 p ≡ true → target_part p ≡ []
  unfolding target_part
  target_none h = drop_until_none 91 p h

  pub target_nil : is_nil (target_part p) ≡ lacks_byte 91 p
  unfolding target_part
  target_nil = drop_until_lacks 91 p

  -- The parts as slices of the text.
  pub own_slice : take (length (own_part p)) p ≡ own_part p
  unfolding own_part
  own_slice = take_until_slice 91 p

  pub target_slice : drop (length (own_part p)) p ≡ target_part p
  unfolding own_part target_part
  target_slice = drop_until_slice 91 p

  pub own_length : length (own_part p) ≤ length p
  unfolding own_part
  own_length = take_until_length 91 p

  -- A path has no selection exactly if no byte of its own part is `{`, and no property exactly if none is a dot.
  pub no_selection : (has_variant_selection p ≡ false) ↔ (lacks_byte 123 (own_part p) ≡ true)
  unfolding has_variant_selection
  no_selection = (λ e. not_false (lacks_byte 123 (own_part p)) e, λ e. ap not e)

  pub no_property : (has_property p ≡ false) ↔ (lacks_byte 46 (own_part p) ≡ true)
  unfolding has_property
  no_property = (λ e. not_false (lacks_byte 46 (own_part p)) e, λ e. ap not e)

  pub selection_scan : has_variant_selection p ≡ not (lacks_byte 123 (own_part p))
  unfolding has_variant_selection
  selection_scan = refl

  pub property_scan : has_property p ≡ not (lacks_byte 46 (own_part p))
  unfolding has_property
  property_scan = refl

  -- What the whole text lacks, its own part lacks.
  pub own_lacks_too : (b : ℕ) → lacks_byte b p ≡ true → lacks_byte b (own_part p) ≡ true
  own_lacks_too b h = lacks_before b (own_part p) (target_part p) (rw own_parts h)

  pub lacks_free : lacks_byte 123 p ≡ true → has_variant_selection p ≡ false
  lacks_free h = no_selection.1 (own_lacks_too 123 h)

-- A text without brackets in front of a path belongs to its own part.
module _ (x y : Text) (h : lacks_byte 91 x ≡ true) where
  pub own_after : own_part (x ++ y) ≡ x ++ own_part y
  unfolding own_part
  own_after = take_until_after 91 x y h

  pub target_after : target_part (x ++ y) ≡ target_part y
  unfolding target_part
  target_after = drop_until_after 91 x y h

  pub lacks_own_after : (b : ℕ) → lacks_byte b x ≡ true → lacks_byte b (own_part (x ++ y)) ≡ lacks_byte b (own_part y)
  lacks_own_after b k = rw (own_after, lacks_append b x (own_part y), k)

-- A text that begins with a bracket is a target part.
module _ (r : Text) where
  pub own_open : own_part (91 ∷ r) ≡ []
  unfolding own_part take_until
  own_open = refl

  pub target_open : target_part (91 ∷ r) ≡ 91 ∷ r
  unfolding target_part drop_until
  target_open = refl

-- A target part begins with a bracket.
pub target_head : (p : Text) (a : ℕ) (r : Text) → target_part p ≡ a ∷ r → a ≡ 91
unfolding target_part
target_head p a r h = drop_until_head 91 p a r h

-- Such a text followed by the target part of a path has these two parts.
module _ (x p : Text) (h : lacks_byte 91 x ≡ true) where
  pub own_of : own_part (x ++ target_part p) ≡ x
  unfolding own_part target_part
  own_of = take_until_after 91 x (drop_until 91 p) h ∙ ap (λ (y : Text). x ++ y) (take_drop_until 91 p) ∙ append-nil x

  pub target_of : target_part (x ++ target_part p) ≡ target_part p
  unfolding target_part
  target_of = drop_until_after 91 x (drop_until 91 p) h ∙ drop_drop_until 91 p
