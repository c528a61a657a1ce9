-- Stripping a path's text, part by part: a name is kept, a selection leaves nothing, or a slash if a name follows it.
use Rattle.std.specs.Prelude.{Option, Some, None}
use mathlib.Core.Path.{◌≡◌, refl, sym, ap, ◌∙◌}
use mathlib.Core.Bool.{Bool, true, false, cond}
use mathlib.Core.List.{List, [], ◌∷◌, ◌++◌, map, append_assoc, append-nil}
use Prim.Native.Nat.{ℕ}
use Rattle.text.specs.Text.{Text, lacks_byte, take_until, drop_until}
use Rattle.text.proofs.TextLaws.{lacks_first, lacks_rest, lacks_join}
use Rattle.path_grammar.specs.Own.{own_part, target_part}
use Rattle.path_grammar.specs.Legal.{is_name_start_byte, is_name_byte, starts_name}
use Rattle.path_grammar.specs.Grammar as g
use Rattle.path_grammar.specs.Grammar.{name_text, word_text, selection_text, selections_text, prim_text, prim_separator, prims_text, more_text, property_text, own_text, bracket_text, absolute_text, render}
use Rattle.path_grammar.proofs.RenderLacks.{name_lacks, word_lacks, close_no_name}
use Rattle.path_grammar.proofs.Render.{prims_named, own_prims, target_prims, own_target, target_target}
use Rattle.path_parts.specs.Parent.{starts_name_after}
use Rattle.path_parts.specs.Strip.{stripped_byte, strip_from, strip}
use Rattle.path_structure.specs.Structure.{strip_prim, absolute_strip, strip_of}

-- Outside selections a text without `{` is kept.
outside : (t k : Text) → lacks_byte 123 t ≡ true → strip_from false (t ++ k) ≡ t ++ strip_from false k
unfolding strip_from stripped_byte
outside [] k e = refl
outside (a ∷ t) k e = rw (lacks_first 123 a t e) (ap (λ (s : Text). a ∷ s) (outside t k (lacks_rest 123 a t e)))

-- Inside a selection a text without `}` is dropped.
inside : (t k : Text) → lacks_byte 125 t ≡ true → strip_from true (t ++ k) ≡ strip_from true k
unfolding strip_from stripped_byte starts_name_after
inside [] k e = refl
inside (a ∷ t) k e = rw (lacks_first 125 a t e) (inside t k (lacks_rest 125 a t e))

open_no_name : is_name_byte 123 ≡ false
unfolding is_name_byte is_name_start_byte
open_no_name = refl

name_kept : (n : g.Name) (k : Text) → strip_from false (name_text n ++ k) ≡ name_text n ++ strip_from false k
name_kept n k = outside (name_text n) k (name_lacks 123 open_no_name n)

-- A slash if a name follows.
abbrev gap : Text → Text
gap k = cond (starts_name k) (47 ∷ []) []

close_gap : (k : Text) → strip_from true (125 ∷ k) ≡ gap k ++ strip_from false k
unfolding strip_from stripped_byte starts_name_after
close_gap k = refl

selection_inside : (s : g.Selection) (k : Text)
    → (name_text s.variant_set ++ (61 ∷ (word_text s.variant ++ (125 ∷ [])))) ++ k ≡ (name_text s.variant_set ++ (61 ∷ word_text s.variant)) ++ (125 ∷ k)
selection_inside s k =
    append_assoc (name_text s.variant_set) (61 ∷ (word_text s.variant ++ (125 ∷ []))) k
    ∙ ap (λ (t : Text). name_text s.variant_set ++ (61 ∷ t)) (append_assoc (word_text s.variant) (125 ∷ []) k)
    ∙ sym (append_assoc (name_text s.variant_set) (61 ∷ word_text s.variant) (125 ∷ k))

inside_lacks : (s : g.Selection) → lacks_byte 125 (name_text s.variant_set ++ (61 ∷ word_text s.variant)) ≡ true
unfolding lacks_byte
inside_lacks s =
    lacks_join 125 (name_text s.variant_set) (61 ∷ word_text s.variant) (name_lacks 125 close_no_name s.variant_set)
    (word_lacks 125 close_no_name s.variant)

selection_dropped : (s : g.Selection) (k : Text) → strip_from false (selection_text s ++ k) ≡ gap k ++ strip_from false k
unfolding selection_text strip_from stripped_byte
selection_dropped s k =
    ap (strip_from true) (selection_inside s k)
    ∙ inside (name_text s.variant_set ++ (61 ∷ word_text s.variant)) (125 ∷ k) (inside_lacks s) ∙ close_gap k

-- No name follows a selection that another one follows.
selection_no_gap : (s : g.Selection) (k : Text) → gap (selection_text s ++ k) ≡ []
unfolding selection_text is_name_byte is_name_start_byte
selection_no_gap s k = refl

selections_dropped : (s : g.Selection) (r : List g.Selection) (k : Text) → strip_from false (selections_text (s ∷ r) ++ k) ≡ gap k ++ strip_from false k
unfolding selections_text
selections_dropped s [] k = ap (λ (t : Text). strip_from false (t ++ k)) (append-nil (selection_text s)) ∙ selection_dropped s k
selections_dropped s (t ∷ r) k =
    let rest : Text = selections_text (t ∷ r) ++ k in
    let None : gap rest ≡ [] = ap gap (append_assoc (selection_text t) (selections_text r) k) ∙ selection_no_gap t (selections_text r ++ k) in
    ap (strip_from false) (append_assoc (selection_text s) (selections_text (t ∷ r)) k) ∙ selection_dropped s rest
    ∙ ap (λ (x : Text). x ++ strip_from false rest) None ∙ selections_dropped t r k

-- The last prim, and what follows it: no name.
prim_last : (n : g.Name) (ss : List g.Selection) (k : Text) → gap k ≡ [] → strip_from false ((name_text n ++ selections_text ss) ++ k) ≡ name_text n ++ strip_from false k
unfolding selections_text
prim_last n [] k e = ap (λ (t : Text). strip_from false (t ++ k)) (append-nil (name_text n)) ∙ name_kept n k
prim_last n (s ∷ r) k e =
    ap (strip_from false) (append_assoc (name_text n) (selections_text (s ∷ r)) k) ∙ name_kept n (selections_text (s ∷ r) ++ k)
    ∙ ap (λ (t : Text). name_text n ++ t) (selections_dropped s r k ∙ ap (λ (x : Text). x ++ strip_from false k) e)

-- A prim before another: a slash is between them, kept or written for the selections.
slash_kept : (k : Text) → strip_from false (47 ∷ k) ≡ 47 ∷ strip_from false k
unfolding strip_from stripped_byte
slash_kept k = refl

prim_then : (n : g.Name) (ss : List g.Selection) (k : Text) → starts_name k ≡ true
    → strip_from false ((name_text n ++ selections_text ss) ++ (prim_separator ss ++ k)) ≡ name_text n ++ (47 ∷ strip_from false k)
unfolding selections_text prim_separator
prim_then n [] k e =
    ap (λ (t : Text). strip_from false (t ++ (47 ∷ k))) (append-nil (name_text n)) ∙ name_kept n (47 ∷ k) ∙ ap (λ (t : Text). name_text n ++ t) (slash_kept k)
prim_then n (s ∷ r) k e =
    ap (strip_from false) (append_assoc (name_text n) (selections_text (s ∷ r)) k) ∙ name_kept n (selections_text (s ∷ r) ++ k)
    ∙ ap (λ (t : Text). name_text n ++ t) (selections_dropped s r k ∙ ap (λ (b : Bool). cond b (47 ∷ []) [] ++ strip_from false k) e)

prims_stripped : (p : g.Prim) (r : List g.Prim) (k : Text) → gap k ≡ []
    → strip_from false (prims_text p r ++ k) ≡ prims_text (strip_prim p) (map strip_prim r) ++ strip_from false k
unfolding prims_text prim_text strip_prim selections_text prim_separator
prims_stripped p [] k e =
    prim_last p.name p.selections k e ∙ ap (λ (t : Text). t ++ strip_from false k) (sym (append-nil (name_text p.name)))
prims_stripped p (q ∷ r) k e =
    let rest : Text = prims_text q r ++ k in
    let kept : Text = prims_text (strip_prim q) (map strip_prim r) in
    let split : (prim_text p ++ (prim_separator p.selections ++ prims_text q r)) ++ k ≡ prim_text p ++ (prim_separator p.selections ++ rest)
    = append_assoc (prim_text p) (prim_separator p.selections ++ prims_text q r) k
    ∙ ap (λ (t : Text). prim_text p ++ t) (append_assoc (prim_separator p.selections) (prims_text q r) k) in
    ap (strip_from false) split ∙ prim_then p.name p.selections rest (prims_named q r k)
    ∙ ap (λ (t : Text). name_text p.name ++ (47 ∷ t)) (prims_stripped q r k e)
    ∙ sym (append_assoc (name_text p.name) (47 ∷ kept) (strip_from false k))
    ∙ ap (λ (t : Text). (t ++ (47 ∷ kept)) ++ strip_from false k) (sym (append-nil (name_text p.name)))

-- A property has no selection, and is no name after one.
more_lacks : (r : List g.Name) → lacks_byte 123 (more_text r) ≡ true
unfolding more_text lacks_byte
more_lacks [] = refl
more_lacks (n ∷ r) = lacks_join 123 (name_text n) (more_text r) (name_lacks 123 open_no_name n) (more_lacks r)

property_lacks : (x : Option g.Property) → lacks_byte 123 (property_text x) ≡ true
unfolding property_text lacks_byte
property_lacks None = refl
property_lacks (Some x) = lacks_join 123 (name_text x.first) (more_text x.more) (name_lacks 123 open_no_name x.first) (more_lacks x.more)

property_no_gap : (x : Option g.Property) → gap (property_text x) ≡ []
unfolding property_text is_name_byte is_name_start_byte
property_no_gap None = refl
property_no_gap (Some x) = refl

property_kept : (x : Option g.Property) → strip_from false (property_text x) ≡ property_text x
unfolding strip_from
property_kept x =
    ap (strip_from false) (sym (append-nil (property_text x))) ∙ outside (property_text x) [] (property_lacks x) ∙ append-nil (property_text x)

own_stripped : (p : g.Prim) (r : List g.Prim) (x : Option g.Property) → strip_from false (own_text p r x) ≡ own_text (strip_prim p) (map strip_prim r) x
unfolding strip_from stripped_byte own_text
own_stripped p r x =
    ap (λ (t : Text). 47 ∷ t)
    (prims_stripped p r (property_text x) (property_no_gap x)
    ∙ ap (λ (t : Text). prims_text (strip_prim p) (map strip_prim r) ++ t) (property_kept x))

absolute_strips : {d : ℕ} (q : g.Absolute d) → strip (absolute_text q) ≡ absolute_text (absolute_strip q)
unfolding strip strip_from stripped_byte absolute_strip absolute_text own_part target_part take_until drop_until
absolute_strips g.root = refl
absolute_strips (g.prims p r x) =
    ap (λ (t : Text). strip_from false t ++ target_part (own_text p r x)) (own_prims p r x)
    ∙ ap (λ (t : Text). strip_from false (own_text p r x) ++ t) (target_prims p r x) ∙ append-nil (strip_from false (own_text p r x)) ∙ own_stripped p r x
absolute_strips (g.target p r x q) =
    let t : Text = absolute_text q in
    let w : Text = own_text p r (Some x) ++ bracket_text t in
    ap (λ (y : Text). strip_from false y ++ target_part w) (own_target p r x t)
    ∙ ap (λ (y : Text). strip_from false (own_text p r (Some x)) ++ y) (target_target p r x t) ∙ ap (λ (y : Text). y ++ bracket_text t) (own_stripped p r (Some x))

pub strips : (p : g.Path) → strip (render p) ≡ render (strip_of p)
unfolding strip strip_from render strip_of own_part target_part take_until drop_until
strips g.empty = refl
strips (g.absolute q) = absolute_strips q
