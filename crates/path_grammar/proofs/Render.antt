-- The rendering of a path is legal: the other half of the theorem.
use Rattle.std.specs.Prelude.{Option, Some, None}
use mathlib.Core.Path.{◌≡◌, refl, ap, ◌∙◌}
use mathlib.Core.Bool.{true, false}
use mathlib.Core.List.{List, [], ◌∷◌, ◌++◌, append-nil, append_assoc}
use Prim.Native.Nat.{ℕ, zero, suc}
use lib.Dec.{leb}
use Rattle.text.specs.Text.{Text, is_nil, lacks_byte, take_until, drop_until}
use Rattle.path_grammar.specs.Legal.{ScanState, Slash, Name, Opened, Set, Equals, Sel, Closed, Dot, Prop, is_name_start_byte, is_name_byte, is_variant_byte, starts_name, step, run, accept, scan_accepts, legal_own, is_absolute, closes_target, legal_target, legal_within, legal}
use Rattle.characters.specs.NameCharacter.{characters_allowed}
use Rattle.characters.proofs.AllowedLaws.{allowed_none, allowed_ascii, allowed_join}
use Rattle.path_grammar.specs.Own.{own_part, target_part, has_property}
use Rattle.text.proofs.BoolLaws.{and_l, and_r, or_right}
use Rattle.text.proofs.TextLaws.{last_snoc}
use Rattle.text.proofs.UntilLaws.{drop_last_snoc}
use Rattle.path_grammar.proofs.RunLaws.{run_app}
use Rattle.path_grammar.proofs.OwnLaws.{own_all, target_none, own_after, target_after}
use Rattle.path_grammar.proofs.LegalLaws.{own_by_scan, own_unbracketed, empty_legal}
use Rattle.path_grammar.proofs.NameLaws.{run_characters, start_number, cont_number, name_starts, name_allowed, word_allowed}
use Rattle.path_grammar.proofs.RenderLacks.{dot_found}
use Rattle.path_grammar.specs.Grammar as g
use Rattle.path_grammar.specs.Grammar.{is_identifier_cont, all_cont, are_variant_bytes, name_text, word_text, selection_text, selections_text, prim_text, prim_separator, prims_text, more_text, property_text, own_text, bracket_text, absolute_text, render}

-- A state that the characters of a name do not leave.
abbrev keeps : ScanState → Type 0
keeps s = (a : ℕ) → is_name_byte a ≡ true → step s a ≡ s

stays : (s : ScanState) → keeps s → (cs : List ℕ) → all_cont cs ≡ true → run s cs ≡ s
unfolding run all_cont
stays s k [] e = refl
stays s k (c ∷ r) e =
    rw (k c (cont_number c (and_l (is_identifier_cont c) (all_cont r) e))) (stays s k r (and_r (is_identifier_cont c) (all_cont r) e))

name_keeps : keeps Name
unfolding step
name_keeps a h = rw h

set_keeps : keeps Set
unfolding step
set_keeps a h = rw h

prop_keeps : keeps Prop
unfolding step
prop_keeps a h = rw h

-- A name leads from state s to state t.
reads_name : (s t : ScanState) → ((a : ℕ) → is_name_start_byte a ≡ true → step s a ≡ t) → keeps t → (n : g.Name) → run s (name_text n) ≡ t
unfolding run name_text
reads_name s t f k n =
    run_characters s (n.first ∷ n.more)
    ∙ ap (λ (u : ScanState). run u n.more) (f n.first (start_number n.first n.first_is))
    ∙ stays t k n.more n.more_are

from_slash : (n : g.Name) → run Slash (name_text n) ≡ Name
unfolding step
from_slash n = reads_name Slash Name (λ a h. rw h) name_keeps n

from_closed : (n : g.Name) → run Closed (name_text n) ≡ Name
unfolding step
from_closed n = reads_name Closed Name (λ a h. rw h) name_keeps n

from_opened : (n : g.Name) → run Opened (name_text n) ≡ Set
unfolding step
from_opened n = reads_name Opened Set (λ a h. rw h) set_keeps n

from_dot : (n : g.Name) → run Dot (name_text n) ≡ Prop
unfolding step
from_dot n = reads_name Dot Prop (λ a h. rw h) prop_keeps n

-- The bytes of a variant.
equals_word : (a : ℕ) → is_variant_byte a ≡ true → step Equals a ≡ Sel
unfolding step
equals_word a h = rw h

sel_keeps : (t : Text) → are_variant_bytes t ≡ true → run Sel t ≡ Sel
unfolding run step are_variant_bytes
sel_keeps [] e = refl
sel_keeps (a ∷ t) e = rw (and_l (is_variant_byte a) (are_variant_bytes t) e) (sel_keeps t (and_r (is_variant_byte a) (are_variant_bytes t) e))

from_equals : (w : g.Word) → run Equals (word_text w) ≡ Sel
unfolding run word_text
from_equals w = ap (λ (u : ScanState). run u w.more) (equals_word w.first w.first_is) ∙ sel_keeps w.more w.more_are

-- A selection, after a name or after another selection.
inside : (s : g.Selection) → run Opened (name_text s.variant_set ++ (61 ∷ (word_text s.variant ++ (125 ∷ [])))) ≡ Closed
unfolding run step is_name_start_byte is_name_byte is_variant_byte
inside s =
    rw (
      run_app Opened (name_text s.variant_set) (61 ∷ (word_text s.variant ++ (125 ∷ []))),
      from_opened s.variant_set,
      run_app Equals (word_text s.variant) (125 ∷ []),
      from_equals s.variant,
    )

selection_name : (s : g.Selection) → run Name (selection_text s) ≡ Closed
unfolding run step selection_text is_name_start_byte is_name_byte
selection_name s = inside s

selection_closed : (s : g.Selection) → run Closed (selection_text s) ≡ Closed
unfolding run step selection_text is_name_start_byte is_name_byte
selection_closed s = inside s

more_closed : (r : List g.Selection) → run Closed (selections_text r) ≡ Closed
unfolding run selections_text
more_closed [] = refl
more_closed (s ∷ r) = rw (run_app Closed (selection_text s) (selections_text r), selection_closed s) (more_closed r)

-- The state after a prim with these selections.
abbrev after : List g.Selection → ScanState
after [] = Name
after (s ∷ r) = Closed

reads_selections : (r : List g.Selection) → run Name (selections_text r) ≡ after r
unfolding run selections_text
reads_selections [] = refl
reads_selections (s ∷ r) = rw (run_app Name (selection_text s) (selections_text r), selection_name s) (more_closed r)

-- A prim may be read in every state in which a name may be read.
reads_prim : (s : ScanState) → ((n : g.Name) → run s (name_text n) ≡ Name) → (p : g.Prim) → run s (prim_text p) ≡ after p.selections
unfolding prim_text
reads_prim s f p = rw (run_app s (name_text p.name) (selections_text p.selections), f p.name) (reads_selections p.selections)

-- After the separator a name may be read.
reads_joint : (r : List g.Selection) (n : g.Name) → run (run (after r) (prim_separator r)) (name_text n) ≡ Name
unfolding prim_separator run step is_name_start_byte is_name_byte
reads_joint [] n = from_slash n
reads_joint (s ∷ r) n = from_closed n

-- The selections of the last prim.
abbrev last : g.Prim → List g.Prim → List g.Selection
last p [] = p.selections
last p (q ∷ r) = last q r

reads_prims : (s : ScanState) → ((n : g.Name) → run s (name_text n) ≡ Name) → (p : g.Prim) (r : List g.Prim) → run s (prims_text p r) ≡ after (last p r)
unfolding prims_text
reads_prims s f p [] = reads_prim s f p
reads_prims s f p (q ∷ r) =
    rw (
      run_app s (prim_text p) (prim_separator p.selections ++ prims_text q r),
      reads_prim s f p,
      run_app (after p.selections) (prim_separator p.selections) (prims_text q r),
    )
    (reads_prims (run (after p.selections) (prim_separator p.selections)) (reads_joint p.selections) q r)

reads_more : (r : List g.Name) → run Prop (more_text r) ≡ Prop
unfolding run more_text step is_name_start_byte is_name_byte
reads_more [] = refl
reads_more (n ∷ r) = rw (run_app Dot (name_text n) (more_text r), from_dot n) (reads_more r)

reads_property : (x : g.Property) → run Dot (name_text x.first ++ more_text x.more) ≡ Prop
reads_property x = rw (run_app Dot (name_text x.first) (more_text x.more), from_dot x.first) (reads_more x.more)

accepts : (r : List g.Selection) (x : Option g.Property) → accept (run (after r) (property_text x)) ≡ true
unfolding accept run step property_text is_name_start_byte is_name_byte
accepts [] None = refl
accepts (s ∷ r) None = refl
accepts [] (Some x) = rw (reads_property x)
accepts (s ∷ r) (Some x) = rw (reads_property x)

-- The text of prims begins with a name.
pub prims_named : (p : g.Prim) (r : List g.Prim) (y : Text) → starts_name (prims_text p r ++ y) ≡ true
unfolding prims_text prim_text
prims_named p [] y = rw (append_assoc (name_text p.name) (selections_text p.selections) y) (name_starts p.name (selections_text p.selections ++ y))
prims_named p (q ∷ r) y =
    rw (
      append_assoc (name_text p.name ++ selections_text p.selections) (prim_separator p.selections ++ prims_text q r) y,
      append_assoc (name_text p.name) (selections_text p.selections) ((prim_separator p.selections ++ prims_text q r) ++ y),
    )
    (name_starts p.name (selections_text p.selections ++ ((prim_separator p.selections ++ prims_text q r) ++ y)))

-- The characters of a path are allowed.
cons_allowed : (a : ℕ) (r : Text) → leb a 0x7F ≡ true → characters_allowed r ≡ true → characters_allowed (a ∷ r) ≡ true
cons_allowed a r h e = allowed_ascii a h r ∙ e

selection_allowed : (s : g.Selection) → characters_allowed (selection_text s) ≡ true
unfolding selection_text
selection_allowed s =
    cons_allowed 123 _ refl
    (allowed_join (name_text s.variant_set) _ (name_allowed s.variant_set)
    (cons_allowed 61 _ refl (allowed_join (word_text s.variant) _ (word_allowed s.variant) (cons_allowed 125 [] refl allowed_none))))

selections_allowed : (r : List g.Selection) → characters_allowed (selections_text r) ≡ true
unfolding selections_text
selections_allowed [] = allowed_none
selections_allowed (s ∷ r) = allowed_join (selection_text s) (selections_text r) (selection_allowed s) (selections_allowed r)

prim_allowed : (p : g.Prim) → characters_allowed (prim_text p) ≡ true
unfolding prim_text
prim_allowed p = allowed_join (name_text p.name) (selections_text p.selections) (name_allowed p.name) (selections_allowed p.selections)

separator_allowed : (r : List g.Selection) → characters_allowed (prim_separator r) ≡ true
unfolding prim_separator
separator_allowed [] = cons_allowed 47 [] refl allowed_none
separator_allowed (s ∷ r) = allowed_none

prims_allowed : (p : g.Prim) (r : List g.Prim) → characters_allowed (prims_text p r) ≡ true
unfolding prims_text
prims_allowed p [] = prim_allowed p
prims_allowed p (q ∷ r) =
    allowed_join (prim_text p) (prim_separator p.selections ++ prims_text q r) (prim_allowed p)
    (allowed_join (prim_separator p.selections) (prims_text q r) (separator_allowed p.selections) (prims_allowed q r))

more_allowed : (r : List g.Name) → characters_allowed (more_text r) ≡ true
unfolding more_text
more_allowed [] = allowed_none
more_allowed (n ∷ r) = cons_allowed 58 _ refl (allowed_join (name_text n) (more_text r) (name_allowed n) (more_allowed r))

property_allowed : (x : Option g.Property) → characters_allowed (property_text x) ≡ true
unfolding property_text
property_allowed None = allowed_none
property_allowed (Some x) = cons_allowed 46 _ refl (allowed_join (name_text x.first) (more_text x.more) (name_allowed x.first) (more_allowed x.more))

own_text_allowed : (p : g.Prim) (r : List g.Prim) (x : Option g.Property) → characters_allowed (own_text p r x) ≡ true
unfolding own_text
own_text_allowed p r x = cons_allowed 47 _ refl (allowed_join (prims_text p r) (property_text x) (prims_allowed p r) (property_allowed x))

-- The text of an own part.
own_accepted : (p : g.Prim) (r : List g.Prim) (x : Option g.Property) → scan_accepts (own_text p r x) ≡ true
unfolding scan_accepts own_text
own_accepted p r x =
    or_right (is_nil (prims_text p r ++ property_text x)) (accept (run Slash (prims_text p r ++ property_text x)))
    (rw (run_app Slash (prims_text p r) (property_text x), reads_prims Slash from_slash p r) (accepts (last p r) x))

pub own_render : (p : g.Prim) (r : List g.Prim) (x : Option g.Property) → legal_own (own_text p r x) ≡ true
own_render p r x = own_by_scan (own_text p r x) (own_text_allowed p r x) ∙ own_accepted p r x

-- The text `/`.
root_own : legal_own (47 ∷ []) ≡ true
unfolding scan_accepts
root_own = own_by_scan (47 ∷ []) (cons_allowed 47 [] refl allowed_none)

-- The text of an own part and a target part is legal if the own part is, has a property, and the target is an absolute path that is legal one
-- level deeper.
bracket_legal : (d : ℕ) (o t : Text) → legal_own o ≡ true → lacks_byte 46 o ≡ false → is_absolute t ≡ true → legal_within d t ≡ true
    → legal_within (suc d) (o ++ bracket_text t) ≡ true
unfolding legal_within legal_target closes_target bracket_text has_property
bracket_legal d o t lo n a l =
    let u : lacks_byte 91 o ≡ true = own_unbracketed o lo in
    rw (
      own_after o (91 ∷ (t ++ (93 ∷ []))) u,
      target_after o (91 ∷ (t ++ (93 ∷ []))) u,
      append-nil o,
      lo,
      n,
      last_snoc 93 t 93,
      drop_last_snoc t 93,
      a,
      l,
    )

absolute_render : {d : ℕ} (q : g.Absolute d) → is_absolute (absolute_text q) ≡ true
unfolding absolute_text own_text
absolute_render g.root = refl
absolute_render (g.prims p r x) = refl
absolute_render (g.target p r x q) = refl

within_own : (d : ℕ) (t : Text) → legal_own t ≡ true → legal_within d t ≡ true
unfolding legal_within legal_target
within_own zero t e = e
within_own (suc d) t e = let h : lacks_byte 91 t ≡ true = own_unbracketed t e in rw (own_all t h, target_none t h, e)

-- A path with a property has a dot.
pub own_dotted : (p : g.Prim) (r : List g.Prim) (x : g.Property) → lacks_byte 46 (own_text p r (Some x)) ≡ false
unfolding own_text property_text
own_dotted p r x = dot_found (47 ∷ prims_text p r) (name_text x.first ++ more_text x.more)

within_render : {d : ℕ} (q : g.Absolute d) → legal_within d (absolute_text q) ≡ true
unfolding absolute_text
within_render (g.root {d}) = within_own d (47 ∷ []) root_own
within_render (g.prims {d} p r x) = within_own d (own_text p r x) (own_render p r x)
within_render (g.target {d} p r x q) =
    bracket_legal d (own_text p r (Some x)) (absolute_text q) (own_render p r (Some x)) (own_dotted p r x) (absolute_render q) (within_render q)

pub legal_render : (p : g.Path) → legal (render p) ≡ true
unfolding legal render
legal_render g.empty = empty_legal
legal_render (g.absolute q) = within_render q

-- The two parts of a path's text.
module _ (p : g.Prim) (r : List g.Prim) where
  pub own_unbracketed_text : (x : Option g.Property) → lacks_byte 91 (own_text p r x) ≡ true
  own_unbracketed_text x = own_unbracketed (own_text p r x) (own_render p r x)

  pub own_prims : (x : Option g.Property) → own_part (own_text p r x) ≡ own_text p r x
  own_prims x = own_all (own_text p r x) (own_unbracketed_text x)

  pub target_prims : (x : Option g.Property) → target_part (own_text p r x) ≡ []
  target_prims x = target_none (own_text p r x) (own_unbracketed_text x)

  module _ (x : g.Property) (t : Text) where
    pub own_target : own_part (own_text p r (Some x) ++ bracket_text t) ≡ own_text p r (Some x)
    unfolding bracket_text own_part take_until
    own_target =
        own_after (own_text p r (Some x)) (bracket_text t) (own_unbracketed_text (Some x)) ∙ append-nil (own_text p r (Some x))

    pub target_target : target_part (own_text p r (Some x) ++ bracket_text t) ≡ bracket_text t
    unfolding bracket_text target_part drop_until
    target_target = target_after (own_text p r (Some x)) (bracket_text t) (own_unbracketed_text (Some x))
