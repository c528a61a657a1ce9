-- The prim path of a path's text: whether it has a property or ends in a selection can be read from its bytes.
use Rattle.std.specs.Prelude.{Some, None}
use mathlib.Core.Path.{◌≡◌, refl, sym, ap, ◌∙◌}
use mathlib.Core.Bool.{Bool, true, false, cond, ◌&&◌, true≢false}
use mathlib.Core.List.{List, [], ◌∷◌, ◌++◌, append_assoc, append-nil}
use Prim.Native.Nat.{ℕ}
use lib.ListN.{length, take}
use lib.Seq.{take-length}
use Rattle.text.specs.Text.{Text, is_nil, ends_with_byte, lacks_byte, take_until}
use Rattle.text.proofs.BoolLaws.{and_no}
use Rattle.text.proofs.TextLaws.{last_after, lacks_last}
use Rattle.path_grammar.specs.Own.{own_part, has_property}
use Rattle.path_grammar.specs.Legal.{starts_name}
use Rattle.path_grammar.specs.Grammar as g
use Rattle.path_grammar.specs.Grammar.{name_text, word_text, selection_text, selections_text, prim_text, prim_separator, prims_text, property_text, own_text, bracket_text, absolute_text, render}
use Rattle.path_grammar.proofs.OwnLaws.{own_all, own_lacks}
use Rattle.path_grammar.proofs.RenderLacks.{name_lacks, prims_dotless, close_no_name}
use Rattle.path_grammar.proofs.Render.{prims_named, own_dotted, own_prims, target_prims, own_target, target_target}
use Rattle.path_parts.specs.Parent.{own_parent_len, is_property, prim_len, prim_path, split_property}
use Rattle.path_parts.proofs.ParentLaws.{prim_of_own}
use Rattle.path_structure.specs.Structure.{drop_last_part, path_of_prims, any_selection, ends_in_selection, absolute_prim_path, prim_path_of, absolute_split, split_property_of, render_option}
use Rattle.path_structure.proofs.PartLaws.{prims_part}
use Rattle.path_structure.proofs.ParentTheorem.{before_slash, prims_before, property_before, no_property_text, prims_name, text_option, option_texts}

-- So a path has a property exactly if its text has a dot.
undotted : (p : g.Prim) (r : List g.Prim) → lacks_byte 46 (own_text p r None) ≡ true
unfolding own_text property_text lacks_byte
undotted p r = ap (lacks_byte 46) (append-nil (prims_text p r)) ∙ prims_dotless p r

-- A text ends in `}` exactly if its last prim has a selection.
ends_after : (b : ℕ) (x t : Text) → is_nil t ≡ false → ends_with_byte b (x ++ t) ≡ ends_with_byte b t
ends_after b x [] e = absurd (true≢false e)
ends_after b x (a ∷ t) e = last_after b x a t

name_ends : (n : g.Name) → ends_with_byte 125 (name_text n) ≡ false
name_ends n = lacks_last 125 (name_text n) (name_lacks 125 close_no_name n)

selection_ends : (s : g.Selection) → ends_with_byte 125 (selection_text s) ≡ true
unfolding selection_text ends_with_byte
selection_ends s =
    last_after 125 (123 ∷ name_text s.variant_set) 61 (word_text s.variant ++ (125 ∷ []))
    ∙ last_after 125 (61 ∷ word_text s.variant) 125 []

selection_some : (s : g.Selection) (t : Text) → is_nil (selection_text s ++ t) ≡ false
unfolding selection_text
selection_some s t = refl

selections_end : (s : g.Selection) (r : List g.Selection) → ends_with_byte 125 (selections_text (s ∷ r)) ≡ true
unfolding selections_text
selections_end s [] = ap (ends_with_byte 125) (append-nil (selection_text s)) ∙ selection_ends s
selections_end s (t ∷ r) = ends_after 125 (selection_text s) (selections_text (t ∷ r)) (selection_some t (selections_text r)) ∙ selections_end t r

prim_ends : (n : g.Name) (ss : List g.Selection) → ends_with_byte 125 (name_text n ++ selections_text ss) ≡ any_selection ss
unfolding any_selection selections_text
prim_ends n [] = ap (ends_with_byte 125) (append-nil (name_text n)) ∙ name_ends n
prim_ends n (s ∷ r) = ends_after 125 (name_text n) (selections_text (s ∷ r)) (selection_some s (selections_text r)) ∙ selections_end s r

named_some : (t : Text) → starts_name t ≡ true → is_nil t ≡ false
named_some [] e = absurd (true≢false (sym e))
named_some (a ∷ t) e = refl

prims_end : (p : g.Prim) (r : List g.Prim) → ends_with_byte 125 (prims_text p r) ≡ ends_in_selection p r
unfolding prims_text prim_text ends_in_selection
prims_end p [] = prim_ends p.name p.selections
prims_end p (q ∷ r) =
    let Some : is_nil (prims_text q r) ≡ false = named_some (prims_text q r) (prims_name q r) in
    ap (ends_with_byte 125) (sym (append_assoc (prim_text p) (prim_separator p.selections) (prims_text q r)))
    ∙ ends_after 125 (prim_text p ++ prim_separator p.selections) (prims_text q r) Some ∙ prims_end q r

slash_ends : (p : g.Prim) (r : List g.Prim) → ends_with_byte 125 (47 ∷ prims_text p r) ≡ ends_in_selection p r
slash_ends p r = ends_after 125 (47 ∷ []) (prims_text p r) (named_some (prims_text p r) (prims_name p r)) ∙ prims_end p r

-- The prim path of a text without brackets, by whether it has a dot.
own_prim_dotted : (w : Text) → own_part w ≡ w → lacks_byte 46 w ≡ false → prim_path w ≡ take (own_parent_len w) w
unfolding prim_path prim_len has_property
own_prim_dotted w o h = rw (o, h)

own_prim_undotted : (w : Text) → own_part w ≡ w → lacks_byte 46 w ≡ true → prim_path w ≡ take (cond (ends_with_byte 125 w) (own_parent_len w) (length w)) w
unfolding prim_path prim_len has_property
own_prim_undotted w o h = rw (o, h)

-- The cases.
property_prim : (p : g.Prim) (r : List g.Prim) (x : g.Property) → prim_path (own_text p r (Some x)) ≡ own_text p r None
unfolding own_text
property_prim p r x =
    own_prim_dotted (own_text p r (Some x)) (own_prims p r (Some x)) (own_dotted p r x)
    ∙ before_slash (prims_text p r ++ property_text (Some x)) (prims_named p r (property_text (Some x))) ∙ property_before p r x

prims_prim : (d : ℕ) (p : g.Prim) (r : List g.Prim)
    → prim_path (own_text p r None) ≡ absolute_text (cond (ends_in_selection p r) (path_of_prims {d = d} (drop_last_part p r)) (g.prims p r None))
unfolding absolute_text
prims_prim d p r =
    own_prim_undotted (own_text p r None) (own_prims p r None) (undotted p r)
    ∙ ap (λ (t : Text). take (cond (ends_with_byte 125 t) (own_parent_len t) (length t)) t) (no_property_text p r)
    ∙ ap (λ (b : Bool). take (cond b (own_parent_len t) (length t)) t) (slash_ends p r) ∙ go (ends_in_selection p r)
  where
    t : Text
    t = 47 ∷ prims_text p r

    go : (b : Bool) → take (cond b (own_parent_len t) (length t)) t ≡ absolute_text (cond b (path_of_prims {d = d} (drop_last_part p r)) (g.prims p r None))
    go true = before_slash (prims_text p r) (prims_name p r) ∙ prims_before d (prims_text p r) (drop_last_part p r) (prims_part p r)
    go false = take-length t ∙ sym (no_property_text p r)

-- The prim path of a path with a target is that of its own part.
prim_own : (w : Text) → prim_path w ≡ prim_path (own_part w)
unfolding prim_path prim_len has_property
prim_own w =
    let o : own_part (own_part w) ≡ own_part w = own_all (own_part w) (own_lacks w) in
    prim_of_own w ∙ ap (λ (n : ℕ). take n (own_part w)) (sym (same_len (own_part w) w o))
  where
    same_len : (v w : Text) → own_part v ≡ own_part w → prim_len v ≡ prim_len w
    same_len v w o = rw o

absolute_prim_paths : {d : ℕ} (q : g.Absolute d) → prim_path (absolute_text q) ≡ absolute_text (absolute_prim_path q)
unfolding absolute_prim_path absolute_text prim_path prim_len has_property own_part take_until lacks_byte ends_with_byte
absolute_prim_paths g.root = refl
absolute_prim_paths (g.prims {d} p r None) = prims_prim d p r
absolute_prim_paths (g.prims p r (Some x)) = property_prim p r x
absolute_prim_paths (g.target p r x q) = prim_own (own_text p r (Some x) ++ bracket_text (absolute_text q)) ∙ ap prim_path (own_target p r x (absolute_text q)) ∙ property_prim p r x

pub prim_paths : (p : g.Path) → prim_path (render p) ≡ render (prim_path_of p)
unfolding prim_path_of render prim_path prim_len has_property own_part take_until lacks_byte ends_with_byte
prim_paths g.empty = refl
prim_paths (g.absolute q) = absolute_prim_paths q

-- The property.
split_none : (w : Text) → is_property w ≡ false → split_property w ≡ None
unfolding split_property
split_none w h = rw h

property_is : (p : g.Prim) (r : List g.Prim) (x : g.Property) → is_property (own_text p r (Some x)) ≡ true
unfolding is_property has_property
property_is p r x = rw (own_prims p r (Some x), own_dotted p r x, target_prims p r (Some x))

target_is_none : (p : g.Prim) (r : List g.Prim) (x : g.Property) (t : Text) → is_property (own_text p r (Some x) ++ bracket_text t) ≡ false
unfolding is_property bracket_text
target_is_none p r x t =
    let w : Text = own_text p r (Some x) ++ bracket_text t in
    ap (λ (y : Text). has_property w && is_nil y) (target_target p r x t) ∙ and_no (has_property w)

split_some : (w : Text) → is_property w ≡ true → split_property w ≡ Some (prim_path w)
unfolding split_property
split_some w h = rw h

prims_is_none : (p : g.Prim) (r : List g.Prim) → is_property (own_text p r None) ≡ false
unfolding is_property has_property
prims_is_none p r = rw (own_prims p r None, undotted p r)

absolute_splits : {d : ℕ} (q : g.Absolute d) → split_property (absolute_text q) ≡ text_option (absolute_split q)
unfolding absolute_split text_option absolute_text split_property is_property has_property own_part take_until lacks_byte
absolute_splits g.root = refl
absolute_splits (g.prims p r None) = split_none (own_text p r None) (prims_is_none p r)
absolute_splits (g.prims p r (Some x)) = split_some (own_text p r (Some x)) (property_is p r x) ∙ ap Some (property_prim p r x)
absolute_splits (g.target p r x q) = split_none (own_text p r (Some x) ++ bracket_text (absolute_text q)) (target_is_none p r x (absolute_text q))

pub properties : (p : g.Path) → split_property (render p) ≡ render_option (split_property_of p)
unfolding split_property_of render_option render split_property is_property has_property own_part take_until lacks_byte
properties g.empty = refl
properties (g.absolute q) = absolute_splits q ∙ option_texts (absolute_split q)
