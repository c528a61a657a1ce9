-- Lemmas about legal texts and ends, mainly about what they cannot contain.
use mathlib.Core.Path.{◌≡◌, refl, sym, ap, ◌∙◌}
use mathlib.Core.Bool.{Bool, true, false, not, cond, ◌&&◌, ◌||◌, true≢false, false≢true}
use mathlib.Core.List.{[], ◌∷◌, ◌++◌, append-nil}
use Prim.Native.Nat.{ℕ, zero, suc, ◌+◌, ◌≤◌}
use native.Mathlib.Omega.{arith}
use lib.Dec.{eqb, leb}
use borrow.Author.Tests.{eqb-true, leb-true, le-leb}
use Rattle.text.specs.Text.{Text, is_nil, ends_with_byte, lacks_byte, take_until, drop_last}
use Rattle.text.proofs.BoolLaws.{and_l, and_r, and_no, and_yes, not_true}
use Rattle.text.proofs.TextLaws.{last_snoc, last_after, lacks_last}
use Rattle.text.proofs.UntilLaws.{last_split}
use Rattle.path_grammar.specs.Legal.{ScanState, Slash, Name, Opened, Set, Equals, Sel, Closed, Dot, Prop, Dead, is_ascii_start, is_ascii_digit, is_name_start_byte, is_name_byte, is_variant_byte, step, run, accept, is_root, scan_accepts, legal_own, is_absolute, closes_target, legal_target, legal_within, legal, is_end, at_most255, LegalIsAllowed}
use Rattle.path_grammar.specs.Own.{own_part, target_part, has_variant_selection, has_property}
use Rattle.path_grammar.proofs.RunLaws.{dead_refuses, Unread, run_lacks, open_unread, close_unread}
use Rattle.path_grammar.proofs.OwnLaws.{own_parts, own_all, target_none, target_head, target_nil, no_property, selection_scan, property_scan, own_lacks_too, lacks_free}
use Rattle.characters.specs.NameCharacter.{characters_allowed}
use Rattle.characters.proofs.AllowedLaws.{allowed_none, allowed_ascii, allowed_join}
use lib.ListN.{length, length-append}

-- A text is legal without brackets exactly if the automaton accepts it and its characters are allowed.
module _ (p : Text) where
  pub own_scan : legal_own p ≡ true → scan_accepts p ≡ true
  unfolding legal_own
  own_scan e = and_l (scan_accepts p) (characters_allowed p) e

  pub own_allowed : legal_own p ≡ true → characters_allowed p ≡ true
  unfolding legal_own
  own_allowed e = and_r (scan_accepts p) (characters_allowed p) e

  -- If its characters are allowed, the automaton decides.
  pub own_by_scan : characters_allowed p ≡ true → legal_own p ≡ scan_accepts p
  unfolding legal_own
  own_by_scan h = rw h (and_yes (scan_accepts p))

-- A legal text without brackets, other than `/`, does not end in a slash.
slash_ends : (s : ScanState) → accept (step s 47) ≡ false
unfolding accept step
slash_ends Slash = refl
slash_ends Name = refl
slash_ends Opened = refl
slash_ends Set = refl
slash_ends Equals = refl
slash_ends Sel = refl
slash_ends Closed = refl
slash_ends Dot = refl
slash_ends Prop = refl
slash_ends Dead = refl

run_last : (s : ScanState) (r : Text) → accept (run s r) ≡ true → ends_with_byte 47 r ≡ false
unfolding run ends_with_byte
run_last s [] e = refl
run_last s (a ∷ []) e = go (eqb a 47) refl
  where
    go : (t : Bool) → eqb a 47 ≡ t → eqb a 47 ≡ false
    go true h = absurd (true≢false (sym e ∙ rw (eqb-true a 47 h) (slash_ends s)))
    go false h = h
run_last s (a ∷ b ∷ r) e = run_last (step s a) (b ∷ r) e

-- From a state outside a selection, a text without `{` contains no `}`.
abbrev outside : ScanState → Bool
outside Slash = true
outside Name = true
outside Opened = false
outside Set = false
outside Equals = false
outside Sel = false
outside Closed = false
outside Dot = true
outside Prop = true
outside Dead = true

either : (b : Bool) (x y : ScanState) → outside x ≡ true → outside y ≡ true → outside (cond b x y) ≡ true
either true x y h k = h
either false x y h k = k

stays : (s : ScanState) (a : ℕ) → outside s ≡ true → eqb a 123 ≡ false → outside (step s a) ≡ true
unfolding step
stays Slash a o h = either (is_name_start_byte a) Name Dead refl refl
stays Name a o h = rw h (either (is_name_byte a) Name _ refl (either (eqb a 47) Slash _ refl (either (eqb a 46) Dot Dead refl refl)))
stays Opened a o h = absurd (false≢true o)
stays Set a o h = absurd (false≢true o)
stays Equals a o h = absurd (false≢true o)
stays Sel a o h = absurd (false≢true o)
stays Closed a o h = absurd (false≢true o)
stays Dot a o h = either (is_name_start_byte a) Prop Dead refl refl
stays Prop a o h = either (is_name_byte a) Prop _ refl (either (eqb a 58) Dot Dead refl refl)
stays Dead a o h = refl

close_dead : (s : ScanState) → outside s ≡ true → accept (step s 125) ≡ false
unfolding step accept
close_dead Slash o = refl
close_dead Name o = refl
close_dead Opened o = refl
close_dead Set o = refl
close_dead Equals o = refl
close_dead Sel o = absurd (false≢true o)
close_dead Closed o = refl
close_dead Dot o = refl
close_dead Prop o = refl
close_dead Dead o = refl

run_close : (s : ScanState) (r : Text) → outside s ≡ true → lacks_byte 123 r ≡ true → accept (run s r) ≡ true → ends_with_byte 125 r ≡ false
unfolding run ends_with_byte lacks_byte
run_close s [] o f e = refl
run_close s (a ∷ []) o f e = go (eqb a 125) refl
  where
    go : (t : Bool) → eqb a 125 ≡ t → eqb a 125 ≡ false
    go true h = absurd (true≢false (sym e ∙ rw (eqb-true a 125 h) (close_dead s o)))
    go false h = h
run_close s (a ∷ b ∷ r) o f e =
    run_close (step s a) (b ∷ r) (stays s a o (not_true (eqb a 123) (and_l (not (eqb a 123)) (lacks_byte 123 (b ∷ r)) f)))
    (and_r (not (eqb a 123)) (lacks_byte 123 (b ∷ r)) f) e

-- What a legal text without brackets cannot contain.
pub scan_lacks_byte : {b : ℕ} → Unread b → eqb 47 b ≡ false → (p : Text) → scan_accepts p ≡ true → lacks_byte b p ≡ true
unfolding scan_accepts lacks_byte
scan_lacks_byte u n [] e = refl
scan_lacks_byte u n (a ∷ []) e = rw (eqb-true a 47 (and_l (eqb a 47) true e), n)
scan_lacks_byte u n (a ∷ b ∷ r) e =
    let c : Bool = accept (run Slash (b ∷ r)) in
    rw (eqb-true a 47 (and_l (eqb a 47) c e), n) (run_lacks u Slash (b ∷ r) (and_r (eqb a 47) c e))

pub own_unbracketed : (p : Text) → legal_own p ≡ true → lacks_byte 91 p ≡ true
own_unbracketed p e = scan_lacks_byte open_unread refl p (own_scan p e)

pub own_unclosed : (p : Text) → legal_own p ≡ true → lacks_byte 93 p ≡ true
own_unclosed p e = scan_lacks_byte close_unread refl p (own_scan p e)

pub scan_no_close_bracket : (p : Text) → scan_accepts p ≡ true → ends_with_byte 93 p ≡ false
scan_no_close_bracket p e = lacks_last 93 p (scan_lacks_byte close_unread refl p e)

pub own_no_close_bracket : (p : Text) → legal_own p ≡ true → ends_with_byte 93 p ≡ false
own_no_close_bracket p e = scan_no_close_bracket p (own_scan p e)

scan_last : (p : Text) → scan_accepts p ≡ true → is_root p ≡ false → ends_with_byte 47 p ≡ false
unfolding scan_accepts ends_with_byte
scan_last [] e n = refl
scan_last (a ∷ []) e n = absurd (true≢false (sym e ∙ n))
scan_last (a ∷ b ∷ r) e n = run_last Slash (b ∷ r) (and_r (eqb a 47) (accept (run Slash (b ∷ r))) e)

pub own_last : (p : Text) → legal_own p ≡ true → is_root p ≡ false → ends_with_byte 47 p ≡ false
own_last p e n = scan_last p (own_scan p e) n

-- Legality by parts: that of the own part, and that of the target part.
module _ (p : Text) where
  pub legal_parts : legal p ≡ (legal_own (own_part p) && legal_target (legal_within 3) (has_property p) (target_part p))
  unfolding legal legal_within
  legal_parts = refl

  pub legal_own_part : legal p ≡ true → legal_own (own_part p) ≡ true
  legal_own_part e = and_l (legal_own (own_part p)) (legal_target (legal_within 3) (has_property p) (target_part p)) (sym legal_parts ∙ e)

  pub legal_target_part : legal p ≡ true → legal_target (legal_within 3) (has_property p) (target_part p) ≡ true
  legal_target_part e = and_r (legal_own (own_part p)) (legal_target (legal_within 3) (has_property p) (target_part p)) (sym legal_parts ∙ e)

  -- A text without brackets is legal exactly if it is so by itself.
  pub legal_without : lacks_byte 91 p ≡ true → legal p ≡ legal_own p
  unfolding legal_target
  legal_without h = legal_parts ∙ rw (own_all p h, target_none p h) (and_yes (legal_own p))

  pub own_legal : legal_own p ≡ true → legal p ≡ true
  own_legal e = legal_without (own_unbracketed p e) ∙ e

  -- A path with a target has a property, and ends in a closing bracket.
  pub target_property : legal p ≡ true → is_nil (target_part p) ≡ false → has_property p ≡ true
  unfolding legal_target
  target_property e n = go (target_part p) n (legal_target_part e)
    where
      go : (t : Text) → is_nil t ≡ false → legal_target (legal_within 3) (has_property p) t ≡ true → has_property p ≡ true
      go [] n h = absurd (true≢false n)
      go (a ∷ r) n h = and_l (has_property p) (closes_target (legal_within 3) r) h

-- The empty path is legal.
pub empty_own : legal_own [] ≡ true
unfolding scan_accepts
empty_own = own_by_scan [] allowed_none

pub empty_legal : legal [] ≡ true
empty_legal = own_legal [] empty_own

-- A legal path that is not empty is absolute.
pub own_absolute : (a : ℕ) (r : Text) → legal_own (a ∷ r) ≡ true → eqb a 47 ≡ true
unfolding scan_accepts
own_absolute a r e = and_l (eqb a 47) (is_nil r || accept (run Slash r)) (own_scan (a ∷ r) e)

pub within_absolute : (d : ℕ) (t : Text) → is_nil t ≡ false → legal_within d t ≡ true → is_absolute t ≡ true
unfolding legal_within own_part take_until
within_absolute d [] n e = absurd (true≢false n)
within_absolute zero (a ∷ r) n e = own_absolute a r e
within_absolute (suc d) (a ∷ r) n e = go (eqb a 91) refl
  where
    go : (b : Bool) → eqb a 91 ≡ b → eqb a 47 ≡ true
    go true h = absurd (false≢true (rw h at e))
    go false h = own_absolute a (own_part r) (and_l (legal_own (a ∷ own_part r)) _ (rw h at e))

pub absolute_first : (a : ℕ) (r : Text) → legal (a ∷ r) ≡ true → eqb a 47 ≡ true
unfolding legal
absolute_first a r e = within_absolute 4 (a ∷ r) refl e

-- If two texts have the same target part and both or neither have a property, the one is legal as the other is, if its own part is.
pub legal_as : (p q : Text) → legal p ≡ true → has_property q ≡ has_property p → target_part q ≡ target_part p → legal q ≡ legal_own (own_part q)
legal_as p q e h t = legal_parts q ∙ rw (h, t, legal_target_part p e) (and_yes (legal_own (own_part q)))

pub no_root_dot : (r : Text) → legal (47 ∷ 46 ∷ r) ≡ true → ⊥
unfolding scan_accepts own_part take_until run step is_name_start_byte
no_root_dot r e = dead_refuses (own_part r) (own_scan (own_part (47 ∷ 46 ∷ r)) (legal_own_part (47 ∷ 46 ∷ r) e))

-- The target part of a legal path is a bracket, an absolute path and a closing bracket.
module _ (p : Text) (e : legal p ≡ true) (a : ℕ) (r : Text) (h : target_part p ≡ a ∷ r) where
  closes : closes_target (legal_within 3) r ≡ true
  unfolding legal_target
  closes = and_r (has_property p) (closes_target (legal_within 3) r) (rw h at (legal_target_part p e))

  last_closes : ends_with_byte 93 r ≡ true
  unfolding closes_target
  last_closes = and_l (ends_with_byte 93 r) (is_absolute (drop_last r) && legal_within 3 (drop_last r)) closes

  inner_absolute : is_absolute (drop_last r) ≡ true
  unfolding closes_target
  inner_absolute =
      and_l (is_absolute (drop_last r)) (legal_within 3 (drop_last r)) (and_r (ends_with_byte 93 r) (is_absolute (drop_last r) && legal_within 3 (drop_last r)) closes)

  -- So the path ends in that bracket, and the target part has at least three bytes.
  pub target_closed : ends_with_byte 93 p ≡ true
  unfolding ends_with_byte
  target_closed =
      let k : own_part p ++ a ∷ r ≡ p = rw h at (own_parts p) in
      rw (← k) (last_after 93 (own_part p) a r ∙ go r last_closes)
    where
      go : (r : Text) → ends_with_byte 93 r ≡ true → ends_with_byte 93 (a ∷ r) ≡ true
      go [] l = absurd (false≢true l)
      go (c ∷ r) l = l

  pub target_long : 2 ≤ length r
  target_long =
      let k : length (drop_last r) + 1 ≡ length r = sym (length-append (drop_last r) (93 ∷ [])) ∙ ap length (last_split 93 r last_closes) in
      omega (arith, go (drop_last r) inner_absolute)
    where
      go : (t : Text) → is_absolute t ≡ true → 1 ≤ length t
      go [] l = absurd (false≢true l)
      go (c ∷ t) l = omega arith

bracket_allowed : (test : Text → Bool) (property : Bool) (a : ℕ) (r : Text) → a ≡ 91 → legal_target test property (a ∷ r) ≡ true
    → (test (drop_last r) ≡ true → characters_allowed (drop_last r) ≡ true) → characters_allowed (a ∷ r) ≡ true
unfolding legal_target closes_target
bracket_allowed test property a r h f ih =
    let c : (ends_with_byte 93 r && (is_absolute (drop_last r) && test (drop_last r))) ≡ true = and_r property _ f in
    let l : ends_with_byte 93 r ≡ true = and_l (ends_with_byte 93 r) _ c in
    let t : test (drop_last r) ≡ true = and_r (is_absolute (drop_last r)) (test (drop_last r)) (and_r (ends_with_byte 93 r) _ c) in
    rw (h, ← last_split 93 r l) (allowed_ascii 91 refl (drop_last r ++ 93 ∷ []) ∙ allowed_join (drop_last r) (93 ∷ []) (ih t) (allowed_ascii 93 refl [] ∙ allowed_none))

-- The characters of a legal text are allowed: those of its own part, and those of the path in brackets.
within_allowed : (d : ℕ) (p : Text) → legal_within d p ≡ true → characters_allowed p ≡ true
unfolding legal_within
within_allowed zero p e = own_allowed p e
within_allowed (suc d) p e =
    rw (← own_parts p)
    (allowed_join (own_part p) (target_part p) (own_allowed (own_part p) (and_l (legal_own (own_part p)) tested e))
    (target (target_part p) refl (and_r (legal_own (own_part p)) tested e) (λ t. within_allowed d t)))
  where
    tested : Bool
    tested = legal_target (λ (t : Text). legal_within d t) (has_property p) (target_part p)

    target : (t : Text) → target_part p ≡ t → legal_target (λ (t : Text). legal_within d t) (has_property p) t ≡ true
        → ((t : Text) → legal_within d t ≡ true → characters_allowed t ≡ true) → characters_allowed t ≡ true
    target [] h f ih = allowed_none
    target (a ∷ r) h f ih = bracket_allowed (legal_within d) (has_property p) a r (target_head p a r h) f (ih (drop_last r))

pub legal_is_allowed : LegalIsAllowed
unfolding legal
legal_is_allowed p e = within_allowed 4 p e

-- A legal path that does not end in a closing bracket has no target part.
pub unclosed_own : (p : Text) → legal p ≡ true → ends_with_byte 93 p ≡ false → target_part p ≡ []
unclosed_own p e n = go (target_part p) refl
  where
    go : (t : Text) → target_part p ≡ t → t ≡ []
    go [] h = refl
    go (a ∷ r) h = absurd (true≢false (sym (target_closed p e a r h) ∙ n))

-- Without a target part, the path is its own part.
pub own_is : (p : Text) → target_part p ≡ [] → own_part p ≡ p
own_is p h = sym (append-nil (own_part p)) ∙ rw h at (own_parts p)

pub legal_last : (p : Text) → legal p ≡ true → is_root p ≡ false → ends_with_byte 47 p ≡ false
legal_last p e n = go (target_part p) refl
  where
    go : (t : Text) → target_part p ≡ t → ends_with_byte 47 p ≡ false
    go [] h = own_last p (rw (own_is p h) at (legal_own_part p e)) n
    go (a ∷ r) h = rw (← last_split 93 p (target_closed p e a r h)) (last_snoc 47 (drop_last p) 93)

-- Lemmas about the ends of pairs. An end has no property, so it has no brackets, and the whole text decides.
pub end_own : (s : Text) → is_end s ≡ (legal_own s && (lacks_byte 123 s && lacks_byte 46 s))
unfolding is_end
end_own s = go (lacks_byte 91 s) refl
  where
    free : (b : Bool) → b ≡ not (not b)
    free true = refl
    free false = refl

    refuted : legal_own s ≡ true → lacks_byte 91 s ≡ false → ⊥
    refuted e h = true≢false (sym (own_unbracketed s e) ∙ h)

    none : (b c : Bool) → legal s ≡ b → has_property s ≡ c → lacks_byte 91 s ≡ false → (b && (not (has_variant_selection s) && not c)) ≡ false
    none true true e f h = and_no (not (has_variant_selection s))
    none true false e f h = absurd (true≢false (sym (target_property s e (target_nil s ∙ h)) ∙ f))
    none false c e f h = refl

    own-none : (b : Bool) → legal_own s ≡ b → lacks_byte 91 s ≡ false → (b && (lacks_byte 123 s && lacks_byte 46 s)) ≡ false
    own-none true e h = absurd (refuted e h)
    own-none false e h = refl

    go : (b : Bool) → lacks_byte 91 s ≡ b → (legal s && (not (has_variant_selection s) && not (has_property s))) ≡ (legal_own s && (lacks_byte 123 s && lacks_byte 46 s))
    go true h = rw (legal_without s h, selection_scan s, property_scan s, own_all s h, ← free (lacks_byte 123 s), ← free (lacks_byte 46 s))
    go false h = none (legal s) (has_property s) refl refl h ∙ sym (own-none (legal_own s) refl h)

pub end_scan : (s : Text) → is_end s ≡ (legal s && (lacks_byte 123 s && lacks_byte 46 s))
end_scan s = end_own s ∙ go (lacks_byte 91 s) refl
  where
    go : (b : Bool) → lacks_byte 91 s ≡ b → (legal_own s && (lacks_byte 123 s && lacks_byte 46 s)) ≡ (legal s && (lacks_byte 123 s && lacks_byte 46 s))
    go true h = rw (legal_without s h)
    go false h = only (legal_own s) (legal s) (lacks_byte 46 s) refl refl refl
      where
        only : (b c d : Bool) → legal_own s ≡ b → legal s ≡ c → lacks_byte 46 s ≡ d → (b && (lacks_byte 123 s && d)) ≡ (c && (lacks_byte 123 s && d))
        only true c d e f k = absurd (true≢false (sym (own_unbracketed s e) ∙ h))
        only false true true e f k = absurd (true≢false (sym (target_property s f (target_nil s ∙ h)) ∙ (no_property s).1 (own_lacks_too s 46 k)))
        only false true false e f k = sym (and_no (lacks_byte 123 s))
        only false false d e f k = refl

pub end_own_legal : (s : Text) → is_end s ≡ true → legal_own s ≡ true
end_own_legal s e = and_l (legal_own s) (lacks_byte 123 s && lacks_byte 46 s) (sym (end_own s) ∙ e)

pub end_unbracketed : (s : Text) → is_end s ≡ true → lacks_byte 91 s ≡ true
end_unbracketed s e = own_unbracketed s (end_own_legal s e)

pub end_legal : (s : Text) → is_end s ≡ true → legal s ≡ true
end_legal s e = and_l (legal s) (lacks_byte 123 s && lacks_byte 46 s) (sym (end_scan s) ∙ e)

-- The whole text of an end lacks both bytes, so an end has neither a selection nor a property.
end_free : (s : Text) → is_end s ≡ true → (lacks_byte 123 s && lacks_byte 46 s) ≡ true
end_free s e = and_r (legal s) (lacks_byte 123 s && lacks_byte 46 s) (sym (end_scan s) ∙ e)

pub end_lacks : (s : Text) → is_end s ≡ true → lacks_byte 123 s ≡ true
end_lacks s e = and_l (lacks_byte 123 s) (lacks_byte 46 s) (end_free s e)

pub end_undotted : (s : Text) → is_end s ≡ true → lacks_byte 46 s ≡ true
end_undotted s e = and_r (lacks_byte 123 s) (lacks_byte 46 s) (end_free s e)

pub end_no_selection : (s : Text) → is_end s ≡ true → has_variant_selection s ≡ false
end_no_selection s e = lacks_free s (end_lacks s e)

pub end_no_property : (s : Text) → is_end s ≡ true → has_property s ≡ false
end_no_property s e = (no_property s).1 (own_lacks_too s 46 (end_undotted s e))

free_close : (s : Text) → scan_accepts s ≡ true → lacks_byte 123 s ≡ true → ends_with_byte 125 s ≡ false
unfolding scan_accepts ends_with_byte lacks_byte
free_close [] e f = refl
free_close (a ∷ []) e f = rw (eqb-true a 47 (and_l (eqb a 47) true e))
free_close (a ∷ b ∷ r) e f =
    run_close Slash (b ∷ r) refl (and_r (not (eqb a 123)) (lacks_byte 123 (b ∷ r)) f) (and_r (eqb a 47) (accept (run Slash (b ∷ r))) e)

pub end_close : (s : Text) → is_end s ≡ true → ends_with_byte 125 s ≡ false
end_close s e = free_close s (own_scan s (end_own_legal s e)) (end_lacks s e)

-- Texts of at most 255 bytes.
pub fits_short : (p : Text) → at_most255 p ≡ true → length p ≤ 255
unfolding at_most255
fits_short p h = leb-true (length p) 255 h

pub short_fits : (p : Text) → length p ≤ 255 → at_most255 p ≡ true
unfolding at_most255
short_fits p h = le-leb (length p) 255 h

-- A byte that may begin a name, or be part of a variant, may be part of a name.
pub start_cont : (a : ℕ) → is_name_start_byte a ≡ true → is_name_byte a ≡ true
unfolding is_name_byte
start_cont a h = rw h

pub variant_cont : (a : ℕ) → is_variant_byte a ≡ true → is_name_byte a ≡ true
unfolding is_name_byte is_name_start_byte is_variant_byte
variant_cont a h = go (is_ascii_start a) (is_ascii_digit a) (leb 0x80 a) h
  where
    go : (s d o : Bool) → (s || d) ≡ true → (s || o || d) ≡ true
    go true d o e = refl
    go false d true e = refl
    go false d false e = e

-- Lemmas about `/`, and about concatenated texts.
pub root_is : (s : Text) → is_root s ≡ true → s ≡ 47 ∷ []
root_is [] e = absurd (false≢true e)
root_is (a ∷ []) e = let h : a ≡ 47 = eqb-true a 47 (and_l (eqb a 47) true e) in cc
root_is (a ∷ b ∷ r) e = absurd (false≢true (and_r (eqb a 47) false e))
