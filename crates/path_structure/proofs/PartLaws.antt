-- The last part of the text of prims: by recursion over the grammar, the text before it is the text of the prims without their last part.
use Rattle.std.specs.Prelude.{Some, None}
use mathlib.Core.Path.{◌≡◌, refl, sym, ap, subst, ◌∙◌}
use mathlib.Core.Bool.{true, false≢true}
use mathlib.Core.List.{List, [], ◌∷◌, ◌++◌, append_assoc, append-nil}
use Prim.Native.Nat.{ℕ, suc, ◌+◌}
use native.Mathlib.Omega.{arith}
use lib.ListN.{length, take, length-append}
use lib.Seq.{take-append-add}
use Rattle.text.specs.Text.{Text}
use Rattle.text.proofs.BoolLaws.{and_l, and_r}
use Rattle.path_grammar.specs.Legal.{is_name_byte, starts_name}
use Rattle.path_grammar.specs.Grammar as g
use Rattle.path_grammar.specs.Grammar.{name_text, word_text, selection_text, selections_text, prim_text, prim_separator, prims_text}
use Rattle.path_grammar.proofs.NameLaws.{are_name_bytes, name_bytes, word_bytes}
use Rattle.path_grammar.proofs.Render.{prims_named}
use Rattle.path_parts.specs.Parent.{starts_part, starts_name_after, part_offset, last_part_start}
use Rattle.path_parts.proofs.LastLaws.{name_part, none_on}
use Rattle.path_structure.specs.Structure.{drop_last_selection, drop_prim_part, drop_last_part}

-- No part begins in a name or a variant, nor in what follows it if none begins there.
bytes_free : (t u : Text) → are_name_bytes t ≡ true → last_part_start u ≡ None → last_part_start (t ++ u) ≡ None
unfolding are_name_bytes
bytes_free [] u e h = h
bytes_free (a ∷ t) u e h =
    none_on a (t ++ u) (name_part a (t ++ u) (and_l (is_name_byte a) (are_name_bytes t) e)) (bytes_free t u (and_r (is_name_byte a) (are_name_bytes t) e) h)

pub name_free : (n : g.Name) (u : Text) → last_part_start u ≡ None → last_part_start (name_text n ++ u) ≡ None
name_free n u h = bytes_free (name_text n) u (name_bytes n) h

word_free : (w : g.Word) (u : Text) → last_part_start u ≡ None → last_part_start (word_text w ++ u) ≡ None
word_free w u h = bytes_free (word_text w) u (word_bytes w) h

-- The text u is what precedes the last part of t.
pub record Before (t u : Text) : Type 0 where
  pub part : last_part_start t ≡ Some (length u)
  pub text : take (length u) t ≡ u

later : (x t : Text) (k : ℕ) → last_part_start t ≡ Some k → last_part_start (x ++ t) ≡ Some (length x + k)
unfolding last_part_start
later [] t k e = let n : k ≡ 0 + k = omega arith in e ∙ ap Some n
later (a ∷ x) t k e = let n : suc (length x + k) ≡ suc (length x) + k = omega arith in rw (later x t k e) (ap Some n)

-- The same after another text.
pub before_append : (x : Text) {t u : Text} → Before t u → Before (x ++ t) (x ++ u)
before_append x {t} {u} b = record {
  part = later x t (length u) b.part ∙ ap Some (sym (length-append x u));
  text = ap (λ (n : ℕ). take n (x ++ t)) (length-append x u) ∙ take-append-add x t (length u) ∙ ap (λ (s : Text). x ++ s) b.text;
}

-- A text whose first byte begins its last part.
before_none : (t : Text) → last_part_start t ≡ Some 0 → Before t []
before_none t e = record { part = e; text = refl }

pub before_here : (x t : Text) → last_part_start t ≡ Some 0 → Before (x ++ t) x
before_here x t e = rw (append-nil x) at (before_append x (before_none t e))

-- The inside of a selection has no part; so its last part is the selection itself.
inside_free : (s : g.Selection) → last_part_start (name_text s.variant_set ++ (61 ∷ (word_text s.variant ++ (125 ∷ [])))) ≡ None
unfolding last_part_start part_offset starts_part starts_name_after
inside_free s =
    let close : last_part_start (125 ∷ []) ≡ None = refl in
    let word : Text = word_text s.variant ++ (125 ∷ []) in
    name_free s.variant_set (61 ∷ word) (none_on 61 word refl (word_free s.variant (125 ∷ []) close))

selection_part : (s : g.Selection) → last_part_start (selection_text s) ≡ Some 0
unfolding selection_text last_part_start part_offset starts_part
selection_part s = rw (inside_free s)

selections_part : (s : g.Selection) (r : List g.Selection) → Before (selections_text (s ∷ r)) (selections_text (drop_last_selection (s ∷ r)))
unfolding selections_text drop_last_selection
selections_part s [] = rw (append-nil (selection_text s)) (before_none (selection_text s) (selection_part s))
selections_part s (t ∷ r) = before_append (selection_text s) (selections_part t r)

-- A name directly after a selection begins a part there.
close_part : (q : Text) → starts_name q ≡ true → last_part_start q ≡ None → last_part_start (125 ∷ q) ≡ Some 1
unfolding last_part_start part_offset starts_part starts_name_after
close_part q n e = rw (e, n)

selection_close : (s : g.Selection) → selection_text s ≡ (123 ∷ (name_text s.variant_set ++ (61 ∷ word_text s.variant))) ++ (125 ∷ [])
unfolding selection_text
selection_close s = ap (λ (t : Text). 123 ∷ t) (sym (append_assoc (name_text s.variant_set) (61 ∷ word_text s.variant) (125 ∷ [])))

close_here : (y q : Text) → starts_name q ≡ true → last_part_start q ≡ None → Before ((y ++ (125 ∷ [])) ++ q) (y ++ (125 ∷ []))
close_here y q n e =
    let b : Before (125 ∷ q) (125 ∷ []) = record { part = close_part q n e; text = refl } in
    rw (append_assoc y (125 ∷ []) q) (before_append y b)

selections_joint : (s : g.Selection) (r : List g.Selection) (q : Text) → starts_name q ≡ true → last_part_start q ≡ None
    → Before (selections_text (s ∷ r) ++ q) (selections_text (s ∷ r))
unfolding selections_text
selections_joint s [] q n e =
    let begin : Text = 123 ∷ (name_text s.variant_set ++ (61 ∷ word_text s.variant)) in
    subst (λ (t : Text). Before (t ++ q) t) (sym (append-nil (selection_text s) ∙ selection_close s)) (close_here begin q n e)
selections_joint s (t ∷ r) q n e =
    rw (append_assoc (selection_text s) (selections_text (t ∷ r)) q) (before_append (selection_text s) (selections_joint t r q n e))

-- So a name after a prim begins a part, after its separator.
slash_part : (q : Text) → starts_name q ≡ true → last_part_start q ≡ None → last_part_start (47 ∷ q) ≡ Some 0
unfolding last_part_start part_offset starts_part
slash_part [] n e = absurd (false≢true n)
slash_part (a ∷ q) n e = rw e

joint : (n : g.Name) (ss : List g.Selection) (q : Text) → starts_name q ≡ true → last_part_start q ≡ None
    → Before ((name_text n ++ selections_text ss) ++ (prim_separator ss ++ q)) (name_text n ++ selections_text ss)
unfolding prim_separator
joint n [] q f e = before_here (name_text n ++ selections_text []) (47 ∷ q) (slash_part q f e)
joint n (s ∷ r) q f e =
    rw (append_assoc (name_text n) (selections_text (s ∷ r)) q) (before_append (name_text n) (selections_joint s r q f e))

-- The prims ps are what precedes the last part of t; if there are none, t has no part.
abbrev pub PrimsBefore : Text → List g.Prim → Type 0
PrimsBefore t [] = last_part_start t ≡ None
PrimsBefore t (p ∷ r) = Before t (prims_text p r)

prim_part : (n : g.Name) (ss : List g.Selection) → PrimsBefore (name_text n ++ selections_text ss) (drop_prim_part n ss)
unfolding drop_prim_part prims_text prim_text selections_text last_part_start
prim_part n [] = name_free n [] refl
prim_part n (s ∷ r) = before_append (name_text n) (selections_part s r)

pub prims_part : (p : g.Prim) (r : List g.Prim) → PrimsBefore (prims_text p r) (drop_last_part p r)
unfolding drop_last_part prims_text prim_text
prims_part p [] = prim_part p.name p.selections
prims_part p (q ∷ r) = go (drop_last_part q r) (prims_part q r)
  where
    go : (ps : List g.Prim) → PrimsBefore (prims_text q r) ps → Before (prim_text p ++ (prim_separator p.selections ++ prims_text q r)) (prims_text p ps)
    go [] e = joint p.name p.selections (prims_text q r) (rw (append-nil (prims_text q r)) at (prims_named q r [])) e
    go (d ∷ ds) b = before_append (prim_text p) (before_append (prim_separator p.selections) b)
