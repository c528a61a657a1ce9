-- A text that the automaton accepts from a state is the text of what may remain of a path there: one half of the theorem. The text is given by its
-- characters, which are allowed.
use Rattle.std.specs.Prelude.{Option, Some, None}
use mathlib.Core.Path.{◌≡◌, refl, sym, ap, ◌∙◌}
use mathlib.Core.Bool.{Bool, true, false, cond, ◌||◌, false≢true}
use mathlib.Core.List.{List, [], ◌∷◌, ◌++◌, append_assoc}
use Prim.Native.Nat.{ℕ}
use native.Mathlib.Omega.{arith}
use lib.Dec.{eqb, leb}
use borrow.Author.Tests.{eqb-true, leb-true}
use Rattle.text.specs.Text.{Text}
use Rattle.text.proofs.BoolLaws.{and_l, and_r, or_right}
use Rattle.path_grammar.specs.Legal.{ScanState, Slash, Name, Opened, Set, Equals, Sel, Closed, Dot, Prop, Dead, is_ascii_start, is_ascii_digit, is_name_start_byte, is_name_byte, is_variant_byte, step, run, accept}
use Rattle.path_grammar.specs.Grammar as g
use Rattle.path_grammar.specs.Grammar.{is_identifier_start, is_identifier_cont, all_cont, are_variant_bytes, name_text, word_text, selection_text, selections_text, prim_text, prim_separator, prims_text, more_text, property_text}
use Rattle.path_grammar.proofs.RunLaws.{dead_refuses}
use Rattle.path_grammar.proofs.NameLaws.{run_characters, variant_ascii}
use Rattle.characters.specs.Utf8.{encode, encode_all}
use Rattle.characters.specs.NameCharacter.{is_allowed, is_name_character, are_allowed, characters_allowed}
use Rattle.characters.proofs.EncodeLaws.{encode_1}
use Rattle.characters.proofs.Theorem.{allowed_characters}

-- The remaining characters of a name, and the remaining bytes of a variant.
record Tail : Type 0 where
  characters : List ℕ
  are : all_cont characters ≡ true

record WordTail : Type 0 where
  bytes : Text
  are : are_variant_bytes bytes ≡ true

-- What follows a name.
pub record After : Type 0 where
  pub selections : List g.Selection
  pub rest : List g.Prim
  pub property : Option g.Property

follow : Text → List g.Prim → Text
follow j [] = []
follow j (q ∷ r) = j ++ prims_text q r

-- Its text when it follows a name, and when it follows a selection.
after_name : After → Text
unfolding follow
after_name x = selections_text x.selections ++ (follow (prim_separator x.selections) x.rest ++ property_text x.property)

after_selection : After → Text
unfolding follow
after_selection x = selections_text x.selections ++ (follow [] x.rest ++ property_text x.property)

-- What may remain of a path in each state of the automaton.
abbrev Left : ScanState → Type 0
Left Slash = g.Name × After
Left Name = Tail × After
Left Opened = g.Name × g.Word × After
Left Set = Tail × g.Word × After
Left Equals = g.Word × After
Left Sel = WordTail × After
Left Closed = After
Left Dot = g.Name × List g.Name
Left Prop = Tail × List g.Name
Left Dead = ⊥

-- The text of what remains.
text : (s : ScanState) → Left s → Text
unfolding after_name after_selection
text Slash l = name_text l.0 ++ after_name l.1
text Name l = encode_all l.0.characters ++ after_name l.1
text Opened l = name_text l.0 ++ (61 ∷ (word_text l.1 ++ (125 ∷ after_selection l.2)))
text Set l = encode_all l.0.characters ++ (61 ∷ (word_text l.1 ++ (125 ∷ after_selection l.2)))
text Equals l = word_text l.0 ++ (125 ∷ after_selection l.1)
text Sel l = l.0.bytes ++ (125 ∷ after_selection l.1)
text Closed l = after_selection l
text Dot l = name_text l.0 ++ more_text l.1
text Prop l = encode_all l.0.characters ++ more_text l.1
text Dead l = absurd l

-- The characters r are the text of something that may remain in the state s.
record Found (s : ScanState) (r : List ℕ) : Type 0 where
  what : Left s
  same : text s what ≡ encode_all r

-- Prims and a selection before a text.
prims_text_lem : (n : g.Name) (x : After) → prims_text (record { name = n; selections = x.selections }) x.rest ++ property_text x.property ≡ name_text n ++ after_name x
unfolding after_name follow prims_text prim_text
prims_text_lem n x = go x.rest
  where
    go : (r : List g.Prim) → prims_text (record { name = n; selections = x.selections }) r ++ property_text x.property ≡ name_text n ++ (selections_text x.selections ++ (follow (prim_separator x.selections) r ++ property_text x.property))
    go [] = append_assoc (name_text n) (selections_text x.selections) (property_text x.property)
    go (q ∷ r) =
        append_assoc (name_text n ++ selections_text x.selections) (prim_separator x.selections ++ prims_text q r) (property_text x.property)
        ∙ append_assoc (name_text n) (selections_text x.selections) ((prim_separator x.selections ++ prims_text q r) ++ property_text x.property)

selection_text_lem : (s : g.Selection) (y : Text) → selection_text s ++ y ≡ 123 ∷ (name_text s.variant_set ++ (61 ∷ (word_text s.variant ++ (125 ∷ y))))
unfolding selection_text
selection_text_lem s y = simp append_assoc

-- If the automaton accepts r from the state t, then r is the text of something that may remain there.
abbrev Later : List ℕ → ScanState → Type 0
Later r t = accept (run t r) ≡ true → Found t r

no_more : Tail
unfolding all_cont
no_more = record { characters = []; are = refl }

one_more : (a : ℕ) → is_identifier_cont a ≡ true → Tail → Tail
unfolding all_cont
one_more a h t = record { characters = a ∷ t.characters; are = rw h t.are }

head_of : (a : ℕ) → is_identifier_start a ≡ true → Tail → g.Name
head_of a h t = record { first = a; more = t.characters; first_is = h; more_are = t.are }

no_bytes : WordTail
unfolding are_variant_bytes
no_bytes = record { bytes = []; are = refl }

one_byte : (a : ℕ) → is_variant_byte a ≡ true → WordTail → WordTail
unfolding are_variant_bytes
one_byte a h t = record { bytes = a ∷ t.bytes; are = rw h t.are }

word_of : (a : ℕ) → is_variant_byte a ≡ true → WordTail → g.Word
word_of a h t = record { first = a; more = t.bytes; first_is = h; more_are = t.are }

-- An allowed character that the automaton reads as part of a name may be part of one.
number_start : (c : ℕ) → is_allowed c ≡ true → is_name_start_byte c ≡ true → is_identifier_start c ≡ true
unfolding is_name_start_byte is_identifier_start
number_start c ok h = go (is_ascii_start c) (leb c 0x7F) refl ok h
  where
    go : (a b : Bool) → leb c 0x7F ≡ b → (b || is_name_character c) ≡ true → (a || leb 0x80 c) ≡ true → (a || is_name_character c) ≡ true
    go true b e f k = refl
    go false true e f k = absurd (omega (arith, leb-true c 0x7F e, leb-true 0x80 c k))
    go false false e f k = f

number_cont : (c : ℕ) → is_allowed c ≡ true → is_name_byte c ≡ true → is_identifier_cont c ≡ true
unfolding is_name_byte is_identifier_cont
number_cont c ok h = go (is_name_start_byte c) refl h
  where
    go : (b : Bool) → is_name_start_byte c ≡ b → (b || is_ascii_digit c) ≡ true → (is_identifier_start c || is_ascii_digit c) ≡ true
    go true e k = rw (number_start c ok e)
    go false e k = or_right (is_identifier_start c) (is_ascii_digit c) k

nothing : After
nothing = record { selections = []; rest = []; property = None }

-- A prim, a selection or a property added in front.
with_prim : g.Name → After → After
with_prim n x =
    record { selections = []; rest = (record { name = n; selections = x.selections }) ∷ x.rest; property = x.property }

with_selection : g.Name → g.Word → After → After
with_selection n w x =
    record { selections = (record { variant_set = n; variant = w }) ∷ x.selections; rest = x.rest; property = x.property }

with_property : g.Name → List g.Name → After
with_property n r = record { selections = []; rest = []; property = Some (record { first = n; more = r }) }

-- The texts of those.
prim_name : (n : g.Name) (x : After) → after_name (with_prim n x) ≡ 47 ∷ (name_text n ++ after_name x)
unfolding with_prim after_name follow prim_separator selections_text
prim_name n x = ap (λ (y : Text). 47 ∷ y) (prims_text_lem n x)

prim_selection : (n : g.Name) (x : After) → after_selection (with_prim n x) ≡ name_text n ++ after_name x
unfolding with_prim after_selection follow selections_text
prim_selection n x = prims_text_lem n x

more_name : (n : g.Name) (w : g.Word) (x : After) → after_name (with_selection n w x) ≡ 123 ∷ (name_text n ++ (61 ∷ (word_text w ++ (125 ∷ after_selection x))))
unfolding with_selection after_name after_selection selections_text prim_separator
more_name n w x =
    append_assoc (selection_text (record { variant_set = n; variant = w })) (selections_text x.selections) (follow [] x.rest ++ property_text x.property)
    ∙ selection_text_lem (record { variant_set = n; variant = w }) (after_selection x)

more_selection : (n : g.Name) (w : g.Word) (x : After) → after_selection (with_selection n w x) ≡ 123 ∷ (name_text n ++ (61 ∷ (word_text w ++ (125 ∷ after_selection x))))
unfolding with_selection after_selection selections_text
more_selection n w x =
    append_assoc (selection_text (record { variant_set = n; variant = w })) (selections_text x.selections) (follow [] x.rest ++ property_text x.property)
    ∙ selection_text_lem (record { variant_set = n; variant = w }) (after_selection x)

property_name_lem : (n : g.Name) (r : List g.Name) → after_name (with_property n r) ≡ 46 ∷ (name_text n ++ more_text r)
unfolding with_property after_name follow selections_text property_text
property_name_lem n r = refl

property_selection : (n : g.Name) (r : List g.Name) → after_selection (with_property n r) ≡ 46 ∷ (name_text n ++ more_text r)
unfolding with_property after_selection follow selections_text property_text
property_selection n r = refl

-- One more character in front: one of a name, or one of ASCII, which is a byte.
put : (a : ℕ) (t : List ℕ) (y : Text) (r : List ℕ) → encode_all t ++ y ≡ encode_all r → encode_all (a ∷ t) ++ y ≡ encode_all (a ∷ r)
unfolding encode_all
put a t y r e = append_assoc (encode a) (encode_all t) y ∙ ap (λ (z : Text). encode a ++ z) e

put_byte : (a : ℕ) (x : Text) (r : List ℕ) → leb a 0x7F ≡ true → x ≡ encode_all r → a ∷ x ≡ encode_all (a ∷ r)
unfolding encode_all
put_byte a x r h e = rw (encode_1 a (leb-true a 0x7F h)) (ap (λ (z : Text). a ∷ z) e)

put_at : (a b : ℕ) (x : Text) (r : List ℕ) → eqb a b ≡ true → leb b 0x7F ≡ true → x ≡ encode_all r → b ∷ x ≡ encode_all (a ∷ r)
put_at a b x r h k e = rw (eqb-true a b h) (put_byte b x r k e)

-- One character, from each state.
module _ (a : ℕ) (ok : is_allowed a ≡ true) (r : List ℕ) where
  on_slash : (b : Bool) → is_name_start_byte a ≡ b → Later r Name → accept (run (cond b Name Dead) r) ≡ true → Found Slash (a ∷ r)
  unfolding text head_of name_text
  on_slash true h f e = let w : Found Name r = f e in record { what = (head_of a (number_start a ok h) w.what.0, w.what.1); same = put a w.what.0.characters _ r w.same }
  on_slash false h f e = absurd (dead_refuses r e)

  on_name : (b c d k : Bool) → is_name_byte a ≡ b → eqb a 47 ≡ c → eqb a 123 ≡ d → eqb a 46 ≡ k → Later r Name → Later r Slash → Later r Opened → Later r Dot
      → accept (run (cond b Name (cond c Slash (cond d Opened (cond k Dot Dead)))) r) ≡ true → Found Name (a ∷ r)
  unfolding text no_more one_more encode_all
  on_name true c d k h i j l name slash opened dot e =
      let w : Found Name r = name e in record { what = (one_more a (number_cont a ok h) w.what.0, w.what.1); same = put a w.what.0.characters _ r w.same }
  on_name false true d k h i j l name slash opened dot e =
      let w : Found Slash r = slash e in
      record { what = (no_more, with_prim w.what.0 w.what.1); same = prim_name w.what.0 w.what.1 ∙ put_at a 47 _ r i refl w.same }
  on_name false false true k h i j l name slash opened dot e =
      let w : Found Opened r = opened e in
      record {
        what = (no_more, with_selection w.what.0 w.what.1 w.what.2);
        same = more_name w.what.0 w.what.1 w.what.2 ∙ put_at a 123 _ r j refl w.same;
      }
  on_name false false false true h i j l name slash opened dot e =
      let w : Found Dot r = dot e in
      record { what = (no_more, with_property w.what.0 w.what.1); same = property_name_lem w.what.0 w.what.1 ∙ put_at a 46 _ r l refl w.same }
  on_name false false false false h i j l name slash opened dot e = absurd (dead_refuses r e)

  on_opened : (b : Bool) → is_name_start_byte a ≡ b → Later r Set → accept (run (cond b Set Dead) r) ≡ true → Found Opened (a ∷ r)
  unfolding text head_of name_text
  on_opened true h f e = let w : Found Set r = f e in record { what = (head_of a (number_start a ok h) w.what.0, w.what.1, w.what.2); same = put a w.what.0.characters _ r w.same }
  on_opened false h f e = absurd (dead_refuses r e)

  on_set : (b c : Bool) → is_name_byte a ≡ b → eqb a 61 ≡ c → Later r Set → Later r Equals → accept (run (cond b Set (cond c Equals Dead)) r) ≡ true → Found Set (a ∷ r)
  unfolding text no_more one_more encode_all
  on_set true c h i f k e = let w : Found Set r = f e in record { what = (one_more a (number_cont a ok h) w.what.0, w.what.1, w.what.2); same = put a w.what.0.characters _ r w.same }
  on_set false true h i f k e = let w : Found Equals r = k e in record { what = (no_more, w.what.0, w.what.1); same = put_at a 61 _ r i refl w.same }
  on_set false false h i f k e = absurd (dead_refuses r e)

  on_equals : (b : Bool) → is_variant_byte a ≡ b → Later r Sel → accept (run (cond b Sel Dead) r) ≡ true → Found Equals (a ∷ r)
  unfolding text word_of word_text
  on_equals true h f e = let w : Found Sel r = f e in record { what = (word_of a h w.what.0, w.what.1); same = put_byte a _ r (variant_ascii a h) w.same }
  on_equals false h f e = absurd (dead_refuses r e)

  on_sel : (b c : Bool) → is_variant_byte a ≡ b → eqb a 125 ≡ c → Later r Sel → Later r Closed → accept (run (cond b Sel (cond c Closed Dead)) r) ≡ true → Found Sel (a ∷ r)
  unfolding text no_bytes one_byte
  on_sel true c h i f k e = let w : Found Sel r = f e in record { what = (one_byte a h w.what.0, w.what.1); same = put_byte a _ r (variant_ascii a h) w.same }
  on_sel false true h i f k e = let w : Found Closed r = k e in record { what = (no_bytes, w.what); same = put_at a 125 _ r i refl w.same }
  on_sel false false h i f k e = absurd (dead_refuses r e)

  on_closed : (b c d : Bool) → is_name_start_byte a ≡ b → eqb a 123 ≡ c → eqb a 46 ≡ d → Later r Name → Later r Opened → Later r Dot
      → accept (run (cond b Name (cond c Opened (cond d Dot Dead))) r) ≡ true → Found Closed (a ∷ r)
  unfolding text head_of name_text
  on_closed true c d h i j name opened dot e =
      let w : Found Name r = name e in
      record { what = with_prim (head_of a (number_start a ok h) w.what.0) w.what.1; same = prim_selection (head_of a (number_start a ok h) w.what.0) w.what.1 ∙ put a w.what.0.characters _ r w.same }
  on_closed false true d h i j name opened dot e =
      let w : Found Opened r = opened e in
      record {
        what = with_selection w.what.0 w.what.1 w.what.2;
        same = more_selection w.what.0 w.what.1 w.what.2 ∙ put_at a 123 _ r i refl w.same;
      }
  on_closed false false true h i j name opened dot e =
      let w : Found Dot r = dot e in
      record { what = with_property w.what.0 w.what.1; same = property_selection w.what.0 w.what.1 ∙ put_at a 46 _ r j refl w.same }
  on_closed false false false h i j name opened dot e = absurd (dead_refuses r e)

  on_dot : (b : Bool) → is_name_start_byte a ≡ b → Later r Prop → accept (run (cond b Prop Dead) r) ≡ true → Found Dot (a ∷ r)
  unfolding text head_of name_text
  on_dot true h f e = let w : Found Prop r = f e in record { what = (head_of a (number_start a ok h) w.what.0, w.what.1); same = put a w.what.0.characters _ r w.same }
  on_dot false h f e = absurd (dead_refuses r e)

  on_prop : (b c : Bool) → is_name_byte a ≡ b → eqb a 58 ≡ c → Later r Prop → Later r Dot → accept (run (cond b Prop (cond c Dot Dead)) r) ≡ true → Found Prop (a ∷ r)
  unfolding text no_more one_more encode_all more_text
  on_prop true c h i f k e = let w : Found Prop r = f e in record { what = (one_more a (number_cont a ok h) w.what.0, w.what.1); same = put a w.what.0.characters _ r w.same }
  on_prop false true h i f k e = let w : Found Dot r = k e in record { what = (no_more, w.what.0 ∷ w.what.1); same = put_at a 58 _ r i refl w.same }
  on_prop false false h i f k e = absurd (dead_refuses r e)

parse : (s : ScanState) (r : List ℕ) → are_allowed r ≡ true → accept (run s r) ≡ true → Found s r
unfolding run step accept are_allowed encode_all text after_name after_selection follow no_more no_bytes nothing selections_text property_text more_text
parse Slash [] ok e = absurd (false≢true e)
parse Name [] ok e = record { what = (no_more, nothing); same = refl }
parse Opened [] ok e = absurd (false≢true e)
parse Set [] ok e = absurd (false≢true e)
parse Equals [] ok e = absurd (false≢true e)
parse Sel [] ok e = absurd (false≢true e)
parse Closed [] ok e = record { what = nothing; same = refl }
parse Dot [] ok e = absurd (false≢true e)
parse Prop [] ok e = record { what = (no_more, []); same = refl }
parse Dead [] ok e = absurd (false≢true e)
parse Slash (a ∷ r) ok e = on_slash a (and_l (is_allowed a) (are_allowed r) ok) r (is_name_start_byte a) refl (λ h. parse Name r (and_r (is_allowed a) (are_allowed r) ok) h) e
parse Name (a ∷ r) ok e =
    on_name a (and_l (is_allowed a) (are_allowed r) ok) r (is_name_byte a) (eqb a 47) (eqb a 123) (eqb a 46) refl refl refl refl (λ h. parse Name r (and_r (is_allowed a) (are_allowed r) ok) h) (λ h. parse Slash r (and_r (is_allowed a) (are_allowed r) ok) h) (λ h. parse Opened r (and_r (is_allowed a) (are_allowed r) ok) h)
    (λ h. parse Dot r (and_r (is_allowed a) (are_allowed r) ok) h) e
parse Opened (a ∷ r) ok e = on_opened a (and_l (is_allowed a) (are_allowed r) ok) r (is_name_start_byte a) refl (λ h. parse Set r (and_r (is_allowed a) (are_allowed r) ok) h) e
parse Set (a ∷ r) ok e = on_set a (and_l (is_allowed a) (are_allowed r) ok) r (is_name_byte a) (eqb a 61) refl refl (λ h. parse Set r (and_r (is_allowed a) (are_allowed r) ok) h) (λ h. parse Equals r (and_r (is_allowed a) (are_allowed r) ok) h) e
parse Equals (a ∷ r) ok e = on_equals a (and_l (is_allowed a) (are_allowed r) ok) r (is_variant_byte a) refl (λ h. parse Sel r (and_r (is_allowed a) (are_allowed r) ok) h) e
parse Sel (a ∷ r) ok e = on_sel a (and_l (is_allowed a) (are_allowed r) ok) r (is_variant_byte a) (eqb a 125) refl refl (λ h. parse Sel r (and_r (is_allowed a) (are_allowed r) ok) h) (λ h. parse Closed r (and_r (is_allowed a) (are_allowed r) ok) h) e
parse Closed (a ∷ r) ok e =
    on_closed a (and_l (is_allowed a) (are_allowed r) ok) r (is_name_start_byte a) (eqb a 123) (eqb a 46) refl refl refl (λ h. parse Name r (and_r (is_allowed a) (are_allowed r) ok) h) (λ h. parse Opened r (and_r (is_allowed a) (are_allowed r) ok) h) (λ h. parse Dot r (and_r (is_allowed a) (are_allowed r) ok) h) e
parse Dot (a ∷ r) ok e = on_dot a (and_l (is_allowed a) (are_allowed r) ok) r (is_name_start_byte a) refl (λ h. parse Prop r (and_r (is_allowed a) (are_allowed r) ok) h) e
parse Prop (a ∷ r) ok e = on_prop a (and_l (is_allowed a) (are_allowed r) ok) r (is_name_byte a) (eqb a 58) refl refl (λ h. parse Prop r (and_r (is_allowed a) (are_allowed r) ok) h) (λ h. parse Dot r (and_r (is_allowed a) (are_allowed r) ok) h) e
parse Dead (a ∷ r) ok e = absurd (dead_refuses r e)

-- The text r is that of prims and perhaps a property, which follow the first slash.
pub record RenderedPrims (r : Text) : Type 0 where
  pub prim : g.Prim
  pub more : List g.Prim
  pub property : Option g.Property
  pub same : prims_text prim more ++ property_text property ≡ r

-- The texts that are accepted after the first slash.
pub body : (r : Text) → accept (run Slash r) ≡ true → characters_allowed r ≡ true → RenderedPrims r
unfolding text
body r e h =
    let c = allowed_characters r h in
    let read : run Slash c.characters ≡ run Slash r = sym (run_characters Slash c.characters) ∙ ap (run Slash) c.encoded.same in
    let w : Found Slash c.characters = parse Slash c.characters c.allowed (ap accept read ∙ e) in
    record {
      prim = record { name = w.what.0; selections = w.what.1.selections };
      more = w.what.1.rest;
      property = w.what.1.property;
      same = prims_text_lem w.what.0 w.what.1 ∙ w.same ∙ c.encoded.same;
    }
