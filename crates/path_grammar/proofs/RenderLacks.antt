-- Bytes that the text of a name, of prims and of a path has, and lacks.
use mathlib.Core.Path.{◌≡◌, refl, sym, ◌∙◌}
use mathlib.Core.Bool.{Bool, true, false, true≢false}
use mathlib.Core.List.{List, [], ◌∷◌, ◌++◌}
use Prim.Native.Nat.{ℕ}
use lib.Dec.{eqb}
use borrow.Author.Tests.{eqb-true}
use Rattle.text.specs.Text.{Text, lacks_byte}
use Rattle.text.proofs.BoolLaws.{and_l, and_r, and_no}
use Rattle.text.proofs.TextLaws.{lacks_append, lacks_join}
use Rattle.path_grammar.specs.Legal.{is_name_start_byte, is_name_byte}
use Rattle.path_grammar.specs.Grammar as g
use Rattle.path_grammar.specs.Grammar.{name_text, word_text, selection_text, selections_text, prim_text, prim_separator, prims_text}
use Rattle.path_grammar.proofs.NameLaws.{are_name_bytes, name_bytes, word_bytes}

pub not_name : (a k : ℕ) → is_name_byte k ≡ false → is_name_byte a ≡ true → eqb a k ≡ false
not_name a k n h = go (eqb a k) refl
  where
    go : (t : Bool) → eqb a k ≡ t → t ≡ false
    go true e = absurd (true≢false (sym h ∙ rw (eqb-true a k e) n))
    go false e = refl

-- A name and a variant lack every byte that no name contains.
module _ (b : ℕ) (no : is_name_byte b ≡ false) where
  bytes_lack : (t : Text) → are_name_bytes t ≡ true → lacks_byte b t ≡ true
  unfolding are_name_bytes lacks_byte
  bytes_lack [] e = refl
  bytes_lack (a ∷ t) e =
      rw (not_name a b no (and_l (is_name_byte a) (are_name_bytes t) e)) (bytes_lack t (and_r (is_name_byte a) (are_name_bytes t) e))

  pub name_lacks : (n : g.Name) → lacks_byte b (name_text n) ≡ true
  name_lacks n = bytes_lack (name_text n) (name_bytes n)

  pub word_lacks : (w : g.Word) → lacks_byte b (word_text w) ≡ true
  word_lacks w = bytes_lack (word_text w) (word_bytes w)

-- Bytes that no name contains.
pub dot_no_name : is_name_byte 46 ≡ false
unfolding is_name_byte is_name_start_byte
dot_no_name = refl

pub close_no_name : is_name_byte 125 ≡ false
unfolding is_name_byte is_name_start_byte
close_no_name = refl

-- Prims lack the dot.
selection_dotless : (s : g.Selection) → lacks_byte 46 (selection_text s) ≡ true
unfolding selection_text lacks_byte
selection_dotless s =
    lacks_join 46 (name_text s.variant_set) (61 ∷ (word_text s.variant ++ (125 ∷ []))) (name_lacks 46 dot_no_name s.variant_set)
    (lacks_join 46 (word_text s.variant) (125 ∷ []) (word_lacks 46 dot_no_name s.variant) refl)

selections_dotless : (r : List g.Selection) → lacks_byte 46 (selections_text r) ≡ true
unfolding selections_text lacks_byte
selections_dotless [] = refl
selections_dotless (s ∷ r) = lacks_join 46 (selection_text s) (selections_text r) (selection_dotless s) (selections_dotless r)

prim_dotless : (p : g.Prim) → lacks_byte 46 (prim_text p) ≡ true
unfolding prim_text
prim_dotless p = lacks_join 46 (name_text p.name) (selections_text p.selections) (name_lacks 46 dot_no_name p.name) (selections_dotless p.selections)

separator_dotless : (r : List g.Selection) → lacks_byte 46 (prim_separator r) ≡ true
unfolding prim_separator lacks_byte
separator_dotless [] = refl
separator_dotless (s ∷ r) = refl

pub prims_dotless : (p : g.Prim) (r : List g.Prim) → lacks_byte 46 (prims_text p r) ≡ true
unfolding prims_text
prims_dotless p [] = prim_dotless p
prims_dotless p (q ∷ r) =
    lacks_join 46 (prim_text p) (prim_separator p.selections ++ prims_text q r) (prim_dotless p)
    (lacks_join 46 (prim_separator p.selections) (prims_text q r) (separator_dotless p.selections) (prims_dotless q r))

-- A text with a dot in it.
pub dot_found : (x t : Text) → lacks_byte 46 (x ++ (46 ∷ t)) ≡ false
unfolding lacks_byte
dot_found x t = rw (lacks_append 46 x (46 ∷ t)) (and_no (lacks_byte 46 x))
