-- The parent of a path's text is the text before its last part.
use Rattle.std.specs.Prelude.{Option, Some, None}
use mathlib.Core.Path.{◌≡◌, refl, sym, ap, ◌∙◌}
use mathlib.Core.Bool.{Bool, true, false, cond, false≢true}
use mathlib.Core.List.{List, [], ◌∷◌, ◌++◌, append-nil}
use Prim.Native.Nat.{ℕ}
use lib.ListN.{take}
use Rattle.text.specs.Text.{Text, ends_with_byte}
use Rattle.text.proofs.TextLaws.{last_after, last_snoc}
use Rattle.path_grammar.specs.Own.{own_part}
use Rattle.path_grammar.specs.Legal.{starts_name}
use Rattle.path_grammar.specs.Grammar as g
use Rattle.path_grammar.specs.Grammar.{name_text, more_text, prims_text, property_text, own_text, bracket_text, absolute_text, render}
use Rattle.path_grammar.proofs.OwnLaws.{own_slice}
use Rattle.path_grammar.proofs.LegalLaws.{own_no_close_bracket}
use Rattle.path_grammar.proofs.Render.{prims_named, own_render, own_target}
use Rattle.path_parts.specs.Parent.{starts_part, starts_name_after, part_offset, last_part_start, own_parent_len, parent_len, has_parent, parent}
use Rattle.path_parts.proofs.LastLaws.{none_on, before}
use Rattle.path_structure.specs.Structure.{drop_last_part, path_of_prims, absolute_parent, absolute_option, parent_of, render_option}
use Rattle.path_structure.proofs.PartLaws.{name_free, Before, before_here, PrimsBefore, prims_part}

-- The text before the last part, after a slash.
pub before_slash : (t : Text) → starts_name t ≡ true → take (own_parent_len (47 ∷ t)) (47 ∷ t) ≡ 47 ∷ take (before (last_part_start t)) t
unfolding own_parent_len last_part_start part_offset starts_part
before_slash [] n = absurd (false≢true n)
before_slash (a ∷ t) n = go (last_part_start (a ∷ t)) refl
  where
    go : (o : Option ℕ) → last_part_start (a ∷ t) ≡ o → take (own_parent_len (47 ∷ a ∷ t)) (47 ∷ a ∷ t) ≡ 47 ∷ take (before o) (a ∷ t)
    go None h = rw h
    go (Some k) h = rw h

parent_slash : (t : Text) → starts_name t ≡ true → ends_with_byte 93 (47 ∷ t) ≡ false → parent (47 ∷ t) ≡ Some (47 ∷ take (before (last_part_start t)) t)
unfolding parent parent_len
parent_slash [] n c = absurd (false≢true n)
parent_slash (a ∷ t) n c = rw c (ap Some (before_slash (a ∷ t) n))

-- The text before the last part of prims, after a slash, is the path without that part.
pub prims_before : (d : ℕ) (t : Text) (ps : List g.Prim) → PrimsBefore t ps → 47 ∷ take (before (last_part_start t)) t ≡ absolute_text (path_of_prims {d = d} ps)
unfolding absolute_text own_text path_of_prims property_text
prims_before d t [] e = rw e
prims_before d t (p ∷ r) b = ap (λ (o : Option ℕ). 47 ∷ take (before o) t) b.part ∙ ap (λ (s : Text). 47 ∷ s) (b.text ∙ sym (append-nil (prims_text p r)))

-- No part begins in the names of a property, so its last part begins at the dot.
more_free : (r : List g.Name) → last_part_start (more_text r) ≡ None
unfolding more_text last_part_start part_offset starts_part starts_name_after
more_free [] = refl
more_free (n ∷ r) = none_on 58 (name_text n ++ more_text r) refl (name_free n (more_text r) (more_free r))

property_part : (x : g.Property) → last_part_start (property_text (Some x)) ≡ Some 0
unfolding property_text last_part_start part_offset starts_part
property_part x = rw (name_free x.first (more_text x.more) (more_free x.more))

pub property_before : (p : g.Prim) (r : List g.Prim) (x : g.Property)
    → 47 ∷ take (before (last_part_start (prims_text p r ++ property_text (Some x)))) (prims_text p r ++ property_text (Some x)) ≡ own_text p r None
unfolding own_text property_text
property_before p r x =
    let t : Text = prims_text p r ++ property_text (Some x) in
    let b : Before t (prims_text p r) = before_here (prims_text p r) (property_text (Some x)) (property_part x) in
    ap (λ (o : Option ℕ). 47 ∷ take (before o) t) b.part ∙ ap (λ (s : Text). 47 ∷ s) (b.text ∙ sym (append-nil (prims_text p r)))

-- The text of prims without a property.
pub no_property_text : (p : g.Prim) (r : List g.Prim) → own_text p r None ≡ 47 ∷ prims_text p r
unfolding own_text property_text
no_property_text p r = ap (λ (t : Text). 47 ∷ t) (append-nil (prims_text p r))

pub prims_name : (p : g.Prim) (r : List g.Prim) → starts_name (prims_text p r) ≡ true
prims_name p r = rw (append-nil (prims_text p r)) at (prims_named p r [])

-- A text without brackets does not end in one.
own_closed : (p : g.Prim) (r : List g.Prim) (x : Option g.Property) → ends_with_byte 93 (own_text p r x) ≡ false
own_closed p r x = own_no_close_bracket (own_text p r x) (own_render p r x)

property_parent : (p : g.Prim) (r : List g.Prim) (x : g.Property) → parent (own_text p r (Some x)) ≡ Some (own_text p r None)
unfolding own_text
property_parent p r x =
    parent_slash (prims_text p r ++ property_text (Some x)) (prims_named p r (property_text (Some x))) (own_closed p r (Some x)) ∙ ap Some (property_before p r x)

-- The parent of a path with a target is its own part.
closed_parent : (w : Text) → ends_with_byte 93 w ≡ true → take (parent_len w) w ≡ own_part w
unfolding parent_len
closed_parent w h = rw h (own_slice w)

bracket_closed : (o t : Text) → ends_with_byte 93 (o ++ bracket_text t) ≡ true
unfolding bracket_text
bracket_closed o t = last_after 93 o 91 (t ++ (93 ∷ [])) ∙ last_snoc 93 (91 ∷ t) 93

has_parent_lem : (p : g.Prim) (r : List g.Prim) (x : g.Property) (t : Text) → has_parent (own_text p r (Some x) ++ bracket_text t) ≡ true
unfolding own_text bracket_text
has_parent_lem p r x t = go (prims_text p r ++ property_text (Some x))
  where
    go : (y : Text) → has_parent (47 ∷ (y ++ (91 ∷ (t ++ (93 ∷ []))))) ≡ true
    go [] = refl
    go (a ∷ y) = refl

target_parent : (p : g.Prim) (r : List g.Prim) (x : g.Property) (t : Text) → parent (own_text p r (Some x) ++ bracket_text t) ≡ Some (own_text p r (Some x))
unfolding parent
target_parent p r x t =
    let whole : Text = own_text p r (Some x) ++ bracket_text t in
    ap (λ (b : Bool). cond b (Some (take (parent_len whole) whole)) None) (has_parent_lem p r x t)
    ∙ ap Some (closed_parent whole (bracket_closed (own_text p r (Some x)) t) ∙ own_target p r x t)

-- The text of an absolute path, if there is one.
unfoldable pub text_option : {d : ℕ} → Option (g.Absolute d) → Option Text
text_option None = None
text_option (Some q) = Some (absolute_text q)

absolute_parents : {d : ℕ} (q : g.Absolute d) → parent (absolute_text q) ≡ text_option (absolute_parent q)
unfolding absolute_parent text_option absolute_text parent
absolute_parents g.root = refl
absolute_parents (g.prims {d} p r None) =
    ap parent (no_property_text p r) ∙ parent_slash (prims_text p r) (prims_name p r) (rw (no_property_text p r) at (own_closed p r None))
    ∙ ap Some (prims_before d (prims_text p r) (drop_last_part p r) (prims_part p r))
absolute_parents (g.prims p r (Some x)) = property_parent p r x
absolute_parents (g.target p r x q) = target_parent p r x (absolute_text q)

pub option_texts : (o : Option (g.Absolute 4)) → text_option o ≡ render_option (absolute_option o)
unfolding text_option render_option absolute_option render
option_texts None = refl
option_texts (Some q) = refl

pub parents : (p : g.Path) → parent (render p) ≡ render_option (parent_of p)
unfolding parent_of render_option render parent
parents g.empty = refl
parents (g.absolute q) = absolute_parents q ∙ option_texts (absolute_parent q)
