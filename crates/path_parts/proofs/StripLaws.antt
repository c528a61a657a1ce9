-- Lemmas about stripping selections: the result is no longer than the text, is legal if the text is, and has no selection; a text without
-- selections is unchanged. If the buffer has capacity for the text, it holds the stripped one.
use Rattle.std.specs.Prelude.{Option, Some, None}
use mathlib.Core.Path.{◌≡◌, refl, sym, ap, ◌∙◌}
use mathlib.Core.Bool.{Bool, true, false, not, cond, false≢true}
use mathlib.Core.List.{[], ◌∷◌, ◌++◌}
use Prim.Native.Nat.{ℕ, ◌≤◌}
use native.Mathlib.Omega.{arith}
use lib.Dec.{eqb}
use lib.ListN.{length, take, length-append, length-take}
use borrow.Author.Tests.{eqb-true, le-leb}
use Rattle.text.specs.Text.{Text, is_nil, lacks_byte, written}
use Rattle.text.proofs.BoolLaws.{and_yes, or_right}
use Rattle.text.proofs.TextLaws.{lacks_append, lacks_first, lacks_rest, lacks_join}
use Rattle.text.proofs.WriteLaws.{read_back}
use Rattle.characters.specs.Utf8.{Reading, Between}
use Rattle.characters.specs.NameCharacter.{characters_allowed}
use Rattle.characters.proofs.ReadingLaws.{allowed_from, next, allowed_after, reads_byte, nothing_read, ascii_read, ascii_here}
use Rattle.characters.proofs.AllowedLaws.{allowed_from_lem}
use Rattle.path_grammar.specs.Legal.{ScanState, Slash, Name, Opened, Set, Equals, Sel, Closed, Dot, Prop, Dead, is_name_start_byte, is_name_byte, is_variant_byte, starts_name, step, run, accept, scan_accepts, legal_own, legal}
use Rattle.path_grammar.specs.Own.{own_part, target_part, has_variant_selection}
use Rattle.path_grammar.proofs.OwnLaws.{own_parts, own_lacks, own_of, target_of, no_selection, property_scan}
use Rattle.path_grammar.proofs.RunLaws.{run_app}
use Rattle.path_parts.specs.Parent.{starts_name_after}
use Rattle.path_parts.specs.Strip.{stripped_byte, inside_after, strip_from, strip, strip_fit, strip_buffer}
use Rattle.path_parts.proofs.ReadLaws.{Shape, empty, root, below, shape, choose, dies}
use Rattle.path_grammar.proofs.LegalLaws.{own_scan, own_allowed, own_by_scan, legal_own_part, legal_as, start_cont, variant_cont}
use Rattle.path_grammar.proofs.RenderLacks.{not_name}

-- Each byte yields at most one byte.
either_short : (t : Bool) (x y : Text) → length x ≤ 1 → length y ≤ 1 → length (cond t x y) ≤ 1
either_short true x y h k = h
either_short false x y h k = k

pub piece_short : (m : Bool) (a : ℕ) (r : Text) → length (stripped_byte m a r) ≤ 1
unfolding stripped_byte
piece_short true a r = either_short (starts_name_after a r) (47 ∷ []) [] (omega arith) (omega arith)
piece_short false a r = either_short (eqb a 123) [] (a ∷ []) (omega arith) (omega arith)

pub from_shorter : (m : Bool) (p : Text) → length (strip_from m p) ≤ length p
unfolding strip_from
from_shorter m [] = omega arith
from_shorter m (a ∷ r) =
    rw (length-append (stripped_byte m a r) (strip_from (inside_after m a) r)) (omega (arith, piece_short m a r, from_shorter (inside_after m a) r))

pub strip_shorter : (p : Text) → length (strip p) ≤ length p
unfolding strip
strip_shorter p =
    omega (
      arith,
      length-append (strip_from false (own_part p)) (target_part p),
      from_shorter false (own_part p),
      sym (length-append (own_part p) (target_part p)) ∙ ap length (own_parts p),
    )

-- No byte yields a `{`, nor another byte than itself or a slash.
piece_lacks : (m : Bool) (a : ℕ) (r : Text) → lacks_byte 123 (stripped_byte m a r) ≡ true
unfolding stripped_byte lacks_byte
piece_lacks true a r = go (starts_name_after a r)
  where
    go : (t : Bool) → lacks_byte 123 (cond t (47 ∷ []) []) ≡ true
    go true = refl
    go false = refl
piece_lacks false a r = go (eqb a 123) refl
  where
    go : (t : Bool) → eqb a 123 ≡ t → lacks_byte 123 (cond t [] (a ∷ [])) ≡ true
    go true h = refl
    go false h = rw h

piece_unbracketed : (m : Bool) (a : ℕ) (r : Text) → eqb a 91 ≡ false → lacks_byte 91 (stripped_byte m a r) ≡ true
unfolding stripped_byte lacks_byte
piece_unbracketed true a r h = go (starts_name_after a r)
  where
    go : (t : Bool) → lacks_byte 91 (cond t (47 ∷ []) []) ≡ true
    go true = refl
    go false = refl
piece_unbracketed false a r h = go (eqb a 123)
  where
    go : (t : Bool) → lacks_byte 91 (cond t [] (a ∷ [])) ≡ true
    go true = refl
    go false = rw h

from_lacks : (m : Bool) (p : Text) → lacks_byte 123 (strip_from m p) ≡ true
unfolding strip_from lacks_byte
from_lacks m [] = refl
from_lacks m (a ∷ r) = lacks_join 123 (stripped_byte m a r) (strip_from (inside_after m a) r) (piece_lacks m a r) (from_lacks (inside_after m a) r)

from_unbracketed : (m : Bool) (p : Text) → lacks_byte 91 p ≡ true → lacks_byte 91 (strip_from m p) ≡ true
unfolding strip_from lacks_byte
from_unbracketed m [] h = refl
from_unbracketed m (a ∷ r) h =
    lacks_join 91 (stripped_byte m a r) (strip_from (inside_after m a) r) (piece_unbracketed m a r (lacks_first 91 a r h))
    (from_unbracketed (inside_after m a) r (lacks_rest 91 a r h))

-- The two parts of the stripped path.
module _ (p : Text) where
  strip_unbracketed : lacks_byte 91 (strip_from false (own_part p)) ≡ true
  strip_unbracketed = from_unbracketed false (own_part p) (own_lacks p)

  pub strip_own : own_part (strip p) ≡ strip_from false (own_part p)
  unfolding strip
  strip_own = own_of (strip_from false (own_part p)) p strip_unbracketed

  pub strip_target : target_part (strip p) ≡ target_part p
  unfolding strip
  strip_target = target_of (strip_from false (own_part p)) p strip_unbracketed

  -- So a stripped path has no selection of its own.
  pub strip_free : has_variant_selection (strip p) ≡ false
  strip_free = (no_selection (strip p)).1 (rw strip_own (from_lacks false (own_part p)))

-- A text without `{` is unchanged, and so is a path without selections of its own.
lacks_same : (p : Text) → lacks_byte 123 p ≡ true → strip_from false p ≡ p
unfolding strip_from stripped_byte
lacks_same [] f = refl
lacks_same (a ∷ r) f = rw (lacks_first 123 a r f) (ap (λ (t : Text). a ∷ t) (lacks_same r (lacks_rest 123 a r f)))

pub strip_same : (p : Text) → has_variant_selection p ≡ false → strip p ≡ p
unfolding strip
strip_same p f = ap (λ (t : Text). t ++ target_part p) (lacks_same (own_part p) ((no_selection p).0 f)) ∙ own_parts p

-- The stripped text is read in parallel with the text. Inside a selection, its automaton stays in the name before the selection.
abbrev within : ScanState → Bool
within Slash = false
within Name = false
within Opened = true
within Set = true
within Equals = true
within Sel = true
within Closed = false
within Dot = false
within Prop = false
within Dead = false

-- After a selection, its automaton is in that name or after the slash that was written before a name.
abbrev beside : ScanState → Text → ScanState
beside Slash r = Slash
beside Name r = Name
beside Opened r = Name
beside Set r = Name
beside Equals r = Name
beside Sel r = Name
beside Closed r = cond (starts_name r) Slash Name
beside Dot r = Dot
beside Prop r = Prop
beside Dead r = Dead

-- The two automata stay in step at the byte a followed by r.
abbrev Along : ScanState → ℕ → Text → Type 0
Along s a r = (inside_after (within s) a ≡ within (step s a)) × (run (beside s (a ∷ r)) (stripped_byte (within s) a r) ≡ beside (step s a) r)

module _ (a : ℕ) (r : Text) where
  opens : is_name_byte a ≡ true → eqb a 123 ≡ false
  unfolding is_name_byte
  opens h = not_name a 123 refl h

  shuts : is_name_byte a ≡ true → eqb a 125 ≡ false
  unfolding is_name_byte
  shuts h = not_name a 125 refl h

  at_byte : (s : ScanState) (k : ℕ) → eqb a k ≡ true → Along s k r → Along s a r
  at_byte s k h t = rw (eqb-true a k h) t

  closed_fold : Along Sel 125 r
  unfolding step run stripped_byte
  closed_fold = (refl, go (starts_name r))
    where
      go : (t : Bool) → run Name (cond t (47 ∷ []) []) ≡ cond t Slash Name
      go true = refl
      go false = refl

  along : (s : ScanState) → accept (run (step s a) r) ≡ true → Along s a r
  unfolding step run stripped_byte
  along Slash e =
      choose (is_name_start_byte a) Name Dead r
      (λ h _. rw (opens (start_cont a h), h) (refl, refl))
      (λ _ d. dies r d) e
  along Name e =
      choose (is_name_byte a) Name _ r (λ h _. rw (opens h, h) (refl, refl))
      (λ _ f. choose (eqb a 47) Slash _ r (λ h _. at_byte Name 47 h (refl, refl))
      (λ _ g. choose (eqb a 123) Opened _ r (λ h _. at_byte Name 123 h (refl, refl))
      (λ _ i. choose (eqb a 46) Dot Dead r (λ h _. at_byte Name 46 h (refl, refl)) (λ _ d. dies r d) i) g) f) e
  along Opened e =
      choose (is_name_start_byte a) Set Dead r
      (λ h _. rw (shuts (start_cont a h), h) (refl, refl))
      (λ _ d. dies r d) e
  along Set e =
      choose (is_name_byte a) Set _ r (λ h _. rw (shuts h, h) (refl, refl))
      (λ _ f. choose (eqb a 61) Equals Dead r (λ h _. at_byte Set 61 h (refl, refl)) (λ _ d. dies r d) f) e
  along Equals e =
      choose (is_variant_byte a) Sel Dead r (λ h _. rw (shuts (variant_cont a h), h) (refl, refl))
      (λ _ d. dies r d) e
  along Sel e =
      choose (is_variant_byte a) Sel _ r (λ h _. rw (shuts (variant_cont a h), h) (refl, refl))
      (λ _ f. choose (eqb a 125) Closed Dead r (λ h _. at_byte Sel 125 h closed_fold) (λ _ d. dies r d) f) e
  along Closed e =
      choose (is_name_start_byte a) Name _ r
      (λ h _. rw (opens (start_cont a h), start_cont a h, h) (refl, refl))
      (λ _ g. choose (eqb a 123) Opened _ r (λ h _. at_byte Closed 123 h (refl, refl))
      (λ _ i. choose (eqb a 46) Dot Dead r (λ h _. at_byte Closed 46 h (refl, refl)) (λ _ d. dies r d) i) g) e
  along Dot e =
      choose (is_name_start_byte a) Prop Dead r
      (λ h _. rw (opens (start_cont a h), h) (refl, refl))
      (λ _ d. dies r d) e
  along Prop e =
      choose (is_name_byte a) Prop _ r (λ h _. rw (opens h, h) (refl, refl))
      (λ _ f. choose (eqb a 58) Dot Dead r (λ h _. at_byte Prop 58 h (refl, refl)) (λ _ d. dies r d) f) e
  along Dead e = dies r e

strip_end : (s : ScanState) → accept s ≡ true → accept (beside s []) ≡ true
unfolding accept
strip_end Slash e = e
strip_end Name e = e
strip_end Opened e = absurd (false≢true e)
strip_end Set e = absurd (false≢true e)
strip_end Equals e = absurd (false≢true e)
strip_end Sel e = absurd (false≢true e)
strip_end Closed e = e
strip_end Dot e = e
strip_end Prop e = e
strip_end Dead e = e

strip_run : (s : ScanState) (r : Text) → accept (run s r) ≡ true → accept (run (beside s r) (strip_from (within s) r)) ≡ true
unfolding run strip_from
strip_run s [] e = strip_end s e
strip_run s (a ∷ r) e =
    let t = along a r s e in
    rw (t.0, run_app (beside s (a ∷ r)) (stripped_byte (within s) a r) (strip_from (within (step s a)) r), t.1) (strip_run (step s a) r e)

-- Stripping removes no dot: no selection of a legal path has one.
dot_dies : (s : ScanState) → within s ≡ true → step s 46 ≡ Dead
unfolding step is_name_start_byte is_name_byte is_variant_byte
dot_dies Slash h = absurd (false≢true h)
dot_dies Name h = absurd (false≢true h)
dot_dies Opened h = refl
dot_dies Set h = refl
dot_dies Equals h = refl
dot_dies Sel h = refl
dot_dies Closed h = absurd (false≢true h)
dot_dies Dot h = absurd (false≢true h)
dot_dies Prop h = absurd (false≢true h)
dot_dies Dead h = absurd (false≢true h)

piece_dot : (s : ScanState) (a : ℕ) (r : Text) → accept (run (step s a) r) ≡ true → lacks_byte 46 (stripped_byte (within s) a r) ≡ not (eqb a 46)
unfolding stripped_byte lacks_byte
piece_dot s a r e = go (within s) refl
  where
    slashes : (t : Bool) → lacks_byte 46 (cond t (47 ∷ []) []) ≡ true
    slashes true = refl
    slashes false = refl

    inside : within s ≡ true → (d : Bool) → eqb a 46 ≡ d → true ≡ not d
    inside w true h = dies r (rw (eqb-true a 46 h, dot_dies s w) at e)
    inside w false h = refl

    outside : (t : Bool) → eqb a 123 ≡ t → lacks_byte 46 (cond t [] (a ∷ [])) ≡ not (eqb a 46)
    outside true h = rw (eqb-true a 123 h)
    outside false h = and_yes (not (eqb a 46))

    go : (b : Bool) → within s ≡ b → lacks_byte 46 (stripped_byte b a r) ≡ not (eqb a 46)
    go true w = slashes (starts_name_after a r) ∙ inside w (eqb a 46) refl
    go false w = outside (eqb a 123) refl

strip_dots : (s : ScanState) (r : Text) → accept (run s r) ≡ true → lacks_byte 46 (strip_from (within s) r) ≡ lacks_byte 46 r
unfolding run strip_from lacks_byte
strip_dots s [] e = refl
strip_dots s (a ∷ r) e =
    rw (
      (along a r s e).0,
      lacks_append 46 (stripped_byte (within s) a r) (strip_from (within (step s a)) r),
      piece_dot s a r e,
      strip_dots (step s a) r e,
    )

strip_shape : {q : Text} → Shape q → (scan_accepts (strip_from false q) ≡ true) × (lacks_byte 46 (strip_from false q) ≡ lacks_byte 46 q)
unfolding scan_accepts strip_from stripped_byte lacks_byte
strip_shape empty = (refl, refl)
strip_shape root = (refl, refl)
strip_shape (below r f) = (or_right (is_nil (strip_from false r)) (accept (run Slash (strip_from false r))) (strip_run Slash r f), strip_dots Slash r f)

-- Stripping cuts no character: it removes the bytes from a `{` to a `}`, which are bytes of ASCII. Inside a selection, the reader of the stripped
-- text is between two characters.
abbrev beside_reader : Bool → Reading → Reading
beside_reader true u = Between
beside_reader false u = u

read_on : (u : Reading) (a : ℕ) (r : Text) {G : Type 0} → allowed_from u (a ∷ r) ≡ true → ((v : Reading) → next u a ≡ Some v → allowed_from v r ≡ true → G) → G
read_on u a r {G} e k = go (next u a) refl (sym (reads_byte u a r) ∙ e)
  where
    go : (n : Option Reading) → next u a ≡ n → allowed_after n r ≡ true → G
    go None h f = absurd (false≢true f)
    go (Some v) h f = k v h f

strip_reads : (m : Bool) (u : Reading) (r : Text) → allowed_from u r ≡ true → allowed_from (beside_reader m u) (strip_from m r) ≡ true
unfolding strip_from stripped_byte starts_name_after
strip_reads true u [] e = nothing_read
strip_reads false u [] e = e
strip_reads true u (a ∷ r) e = go (eqb a 125) refl (λ v. strip_reads true v r) (strip_reads false Between r)
  where
    slashed : (b : Bool) → allowed_from Between (strip_from false r) ≡ true → allowed_from Between (cond b (47 ∷ []) [] ++ strip_from false r) ≡ true
    slashed true f = ascii_read 47 refl (strip_from false r) ∙ f
    slashed false f = f

    go : (b : Bool) → eqb a 125 ≡ b → ((v : Reading) → allowed_from v r ≡ true → allowed_from Between (strip_from true r) ≡ true)
        → (allowed_from Between r ≡ true → allowed_from Between (strip_from false r) ≡ true) → allowed_from Between (strip_from true (a ∷ r)) ≡ true
    go true h inside outside =
        let z : a ≡ 125 = eqb-true a 125 h in
        rw h (slashed (starts_name r) (outside (ascii_here 125 refl u r (rw z at e)).1))
    go false h inside outside = rw h (read_on u a r e (λ v _ f. inside v f))
strip_reads false u (a ∷ r) e = go (eqb a 123) refl (λ v. strip_reads false v r) (strip_reads true Between r)
  where
    go : (b : Bool) → eqb a 123 ≡ b → ((v : Reading) → allowed_from v r ≡ true → allowed_from v (strip_from false r) ≡ true)
        → (allowed_from Between r ≡ true → allowed_from Between (strip_from true r) ≡ true) → allowed_from u (strip_from false (a ∷ r)) ≡ true
    go true h outside inside =
        let z : a ≡ 123 = eqb-true a 123 h in
        let w = ascii_here 123 refl u r (rw z at e) in
        rw (h, w.0) (inside w.1)
    go false h outside inside = rw h (read_on u a r e (λ v n f. reads_byte u a (strip_from false r) ∙ rw n (outside v f)))

strip_allowed : (p : Text) → characters_allowed p ≡ true → characters_allowed (strip_from false p) ≡ true
strip_allowed p e = allowed_from_lem (strip_from false p) ∙ strip_reads false Between p (sym (allowed_from_lem p) ∙ e)

own_strip_legal : (p : Text) → legal_own p ≡ true → (legal_own (strip_from false p) ≡ true) × (lacks_byte 46 (strip_from false p) ≡ lacks_byte 46 p)
own_strip_legal p e =
    let w = strip_shape (shape p (own_scan p e)) in
    (own_by_scan (strip_from false p) (strip_allowed p (own_allowed p e)) ∙ w.0, w.1)

pub strip_legal : (p : Text) → legal p ≡ true → legal (strip p) ≡ true
strip_legal p e =
    let w = own_strip_legal (own_part p) (legal_own_part p e) in
    legal_as p (strip p) e
    (property_scan (strip p) ∙ ap (λ (t : Text). not (lacks_byte 46 t)) (strip_own p) ∙ ap not w.1 ∙ sym (property_scan p))
    (strip_target p)
    ∙ ap legal_own (strip_own p) ∙ w.0

-- Stripping into a buffer with capacity for the whole text.
module _ (p out : Text) (f : Option ℕ) (room : length p ≤ length out) (h : f ≡ strip_fit p out) where
  fit_strip : f ≡ Some (length (strip p))
  unfolding strip_fit
  fit_strip = h ∙ rw (le-leb (length p) (length out) room) refl

  pub strip_never : f ≡ None → ⊥
  strip_never e = let x : None ≡ Some (length (strip p)) = sym e ∙ fit_strip in let z : ◌≡◌ {A = ℕ} 0 1 = cc in omega arith

  module _ (n : ℕ) (e : f ≡ Some n) where
    pub strip_length : n ≡ length (strip p)
    strip_length = let x : Some n ≡ Some (length (strip p)) = sym e ∙ fit_strip in cc

    module _ (mem : Text) (m : mem ≡ strip_buffer p out) where
      pub strip_memory : mem ≡ written (strip p) out
      unfolding strip_buffer
      strip_memory = m ∙ rw (le-leb (length p) (length out) room) refl

      pub strip_back : take n mem ≡ strip p
      strip_back = rw (strip_memory, strip_length) (read_back (strip p) out)

      pub strip_part : n ≡ length (take n mem)
      strip_part = strip_length ∙ ap length (sym strip_back)

      pub strip_inside : n ≤ length mem
      strip_inside = omega (arith, strip_part, length-take n mem)
