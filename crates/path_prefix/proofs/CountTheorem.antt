-- The theorem that the number of elements in a path's text is the number of elements in the path.
use Rattle.std.specs.Prelude.{Option, Some, None}
use mathlib.Core.Path.{◌≡◌, refl, ap, ◌∙◌}
use mathlib.Core.Bool.{Bool, true, false, cond, ◌&&◌, false≢true}
use mathlib.Core.List.{List, [], ◌∷◌, ◌++◌, append_assoc}
use Prim.Native.Nat.{ℕ, suc, ◌+◌}
use native.Mathlib.Omega.{arith}
use lib.Dec.{eqb}
use Rattle.text.specs.Text.{Text, take_until}
use Rattle.text.proofs.BoolLaws.{and_l, and_r, and_no, or_false}
use Rattle.path_grammar.specs.Own.{own_part}
use Rattle.path_grammar.specs.Legal.{is_name_byte, starts_name}
use Rattle.path_grammar.specs.Grammar as g
use Rattle.path_grammar.specs.Grammar.{name_text, word_text, selection_text, selections_text, prim_separator, prims_text, more_text, property_text, own_text, absolute_text, render}
use Rattle.path_prefix.specs.Elements.{count_elements, selection_count, prim_count, absolute_count, path_count, CountsAgree}
use Rattle.path_grammar.proofs.NameLaws.{are_name_bytes, name_bytes, word_bytes}
use Rattle.path_grammar.proofs.RenderLacks.{not_name}
use Rattle.path_grammar.proofs.Render.{prims_named, own_prims, own_target}

-- The text of prims begins with a name (`prims_named`); the text of a property does not.
property_starts : (x : Option g.Property) → starts_name (property_text x) ≡ false
unfolding property_text is_name_byte
property_starts None = refl
property_starts (Some x) = refl

-- There are selections.
abbrev any : List g.Selection → Bool
any [] = false
any (s ∷ r) = true

module _ (f : Bool) where
  -- A byte other than `/`, `{` and `}` adds no element, so no byte of a name does.
  other : (a : ℕ) (r : Text) → eqb a 47 ≡ false → eqb a 123 ≡ false → eqb a 125 ≡ false → count_elements f (a ∷ r) ≡ count_elements f r
  unfolding count_elements
  other a r h k l = rw (h, k, l) (omega arith)

  byte : (a : ℕ) (r : Text) → is_name_byte a ≡ true → count_elements f (a ∷ r) ≡ count_elements f r
  unfolding is_name_byte
  byte a r h = other a r (not_name a 47 refl h) (not_name a 123 refl h) (not_name a 125 refl h)

  bytes : (t y : Text) → are_name_bytes t ≡ true → count_elements f (t ++ y) ≡ count_elements f y
  unfolding are_name_bytes
  bytes [] y e = refl
  bytes (a ∷ t) y e = byte a (t ++ y) (and_l (is_name_byte a) (are_name_bytes t) e) ∙ bytes t y (and_r (is_name_byte a) (are_name_bytes t) e)

  name : (n : g.Name) (y : Text) → count_elements f (name_text n ++ y) ≡ count_elements f y
  name n y = bytes (name_text n) y (name_bytes n)

  word : (w : g.Word) (y : Text) → count_elements f (word_text w ++ y) ≡ count_elements f y
  word w y = bytes (word_text w) y (word_bytes w)

  -- What those three bytes add.
  slash_adds : (y : Text) → starts_name y ≡ true → count_elements f (47 ∷ y) ≡ suc (count_elements f y)
  unfolding count_elements
  slash_adds [] h = absurd (false≢true h)
  slash_adds (a ∷ y) h = omega arith

  open_adds : (r : Text) → count_elements f (123 ∷ r) ≡ cond f 1 0 + count_elements f r
  unfolding count_elements
  open_adds r = rw (or_false f)

  close_adds : (r : Text) → count_elements f (125 ∷ r) ≡ cond (starts_name r) 1 0 + count_elements f r
  unfolding count_elements
  close_adds r = refl

  selection : (s : g.Selection) (y : Text) → count_elements f (selection_text s ++ y) ≡ cond f 1 0 + (cond (starts_name y) 1 0 + count_elements f y)
  unfolding selection_text
  selection s y =
      rw (append_assoc (name_text s.variant_set) (61 ∷ (word_text s.variant ++ (125 ∷ []))) y, append_assoc (word_text s.variant) (125 ∷ []) y)
      (open_adds _ ∙ ap (λ (n : ℕ). cond f 1 0 + n) (name s.variant_set _ ∙ other 61 _ refl refl refl ∙ word s.variant (125 ∷ y) ∙ close_adds y))

  selections : (r : List g.Selection) (y : Text)
      → count_elements f (selections_text r ++ y) ≡ selection_count f r + (cond (any r && starts_name y) 1 0 + count_elements f y)
  unfolding selections_text selection_count is_name_byte
  selections [] y = omega arith
  selections (s ∷ []) y = rw (append_assoc (selection_text s) [] y) (selection s y ∙ omega arith)
  selections (s ∷ u ∷ r) y =
      rw (append_assoc (selection_text s) (selections_text (u ∷ r)) y)
      (selection s (selections_text (u ∷ r) ++ y) ∙ omega (arith, selections (u ∷ r) y))

  -- A property has no elements.
  more : (r : List g.Name) → count_elements f (more_text r) ≡ 0
  unfolding more_text count_elements
  more [] = refl
  more (n ∷ r) = other 58 (name_text n ++ more_text r) refl refl refl ∙ name n (more_text r) ∙ more r

  property : (x : Option g.Property) → count_elements f (property_text x) ≡ 0
  unfolding property_text count_elements
  property None = refl
  property (Some x) = other 46 (name_text x.first ++ more_text x.more) refl refl refl ∙ name x.first (more_text x.more) ∙ more x.more

  -- What lies between two prims, with the second one's name, adds one element.
  next : (l : List g.Selection) (y : Text) → starts_name y ≡ true
      → cond (any l && starts_name (prim_separator l ++ y)) 1 0 + count_elements f (prim_separator l ++ y) ≡ suc (count_elements f y)
  unfolding prim_separator
  next [] y h = rw (slash_adds y h) (omega arith)
  next (s ∷ l) y h = rw h (omega arith)

  prims : (p : g.Prim) (r : List g.Prim) (x : Option g.Property) → suc (count_elements f (prims_text p r ++ property_text x)) ≡ prim_count f p r
  unfolding prims_text prim_count
  prims p [] x =
      rw (
        append_assoc (name_text p.name) (selections_text p.selections) (property_text x),
        name p.name (selections_text p.selections ++ property_text x),
        selections p.selections (property_text x),
        property_starts x,
        property x,
        and_no (any p.selections),
      )
      (omega arith)
  prims p (q ∷ r) x =
      rw (
        append_assoc (name_text p.name ++ selections_text p.selections) (prim_separator p.selections ++ prims_text q r) (property_text x),
        append_assoc (name_text p.name) (selections_text p.selections) ((prim_separator p.selections ++ prims_text q r) ++ property_text x),
        name p.name (selections_text p.selections ++ ((prim_separator p.selections ++ prims_text q r) ++ property_text x)),
        append_assoc (prim_separator p.selections) (prims_text q r) (property_text x),
        selections p.selections (prim_separator p.selections ++ (prims_text q r ++ property_text x)),
        next p.selections (prims_text q r ++ property_text x) (prims_named q r (property_text x)),
        prims q r x,
      )
      (omega arith)

-- The count of a path's own part is the count of the path.
own_counted : (f : Bool) (p : g.Prim) (r : List g.Prim) (x : Option g.Property) → count_elements f (own_text p r x) ≡ prim_count f p r
unfolding own_text
own_counted f p r x = slash_adds f (prims_text p r ++ property_text x) (prims_named p r (property_text x)) ∙ prims f p r x

absolute_counted : (f : Bool) {d : ℕ} (q : g.Absolute d) → count_elements f (own_part (absolute_text q)) ≡ absolute_count f q
unfolding absolute_text absolute_count count_elements own_part take_until
absolute_counted f g.root = refl
absolute_counted f (g.prims p r x) = ap (count_elements f) (own_prims p r x) ∙ own_counted f p r x
absolute_counted f (g.target p r x q) = ap (count_elements f) (own_target p r x (absolute_text q)) ∙ own_counted f p r (Some x)

pub counted : CountsAgree
unfolding render path_count count_elements own_part take_until
counted f g.empty = refl
counted f (g.absolute q) = absolute_counted f q
