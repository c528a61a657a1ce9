-- The theorem that states when the joined text is legal.
use mathlib.Core.Path.{◌≡◌, refl, sym, ap, ◌∙◌}
use mathlib.Core.Bool.{Bool, true, false, not, cond, ◌&&◌, ◌||◌, true≢false, false≢true}
use mathlib.Core.List.{[], ◌∷◌, ◌++◌}
use Prim.Native.Nat.{ℕ, zero, suc}
use lib.ListN.{take}
use lib.Dec.{eqb}
use borrow.Author.Tests.{eqb-true}
use Rattle.text.specs.Text.{Text, is_nil, lacks_byte}
use Rattle.text.proofs.BoolLaws.{and_l, and_r, and_no, and_yes, or_right, or_false}
use Rattle.text.proofs.TextLaws.{lacks_first, lacks_rest}
use Rattle.characters.specs.NameCharacter.{characters_allowed}
use Rattle.characters.proofs.AllowedLaws.{allowed_none, allowed_after_lem, allowed_join, allowed_ascii}
use Rattle.path_grammar.specs.Own.{own_part, target_part, has_property}
use Rattle.path_grammar.specs.Legal.{ScanState, Slash, Name, Dead, is_name_start_byte, is_name_byte, step, run, accept, is_root, scan_accepts, legal_own, legal, is_end}
use Rattle.path_grammar.proofs.RunLaws.{run_app, run_dead}
use Rattle.path_grammar.proofs.LegalLaws.{own_scan, own_allowed, own_by_scan, legal_own_part, legal_as, end_legal, end_own_legal, end_unbracketed, end_lacks, end_close, root_is, end_undotted}
use Rattle.path_grammar.proofs.OwnLaws.{own_lacks, own_after, target_after, lacks_own_after, own_of, target_of, property_scan}
use Rattle.path_prefix.specs.Prefix.{can_follow}
use Rattle.path_join.specs.Join.{separator_len, separator, body, join, join_illegal, JoinLegal}
use Rattle.path_join.proofs.TailLaws.{own_cons, join_lacks, join_own, no_bracket}
use Rattle.path_join.proofs.JoinLaws.{stem, stem_root, stem_not, join_none, join_root, join_slash, join_other}

-- Without `{` and `.` the automaton reaches only three states.
data Plain : ScanState → Type 0 where
  slash : Plain Slash
  name : Plain Name
  dead : Plain Dead

either : {x y : ScanState} (b : Bool) → Plain x → Plain y → Plain (cond b x y)
either true h k = h
either false h k = k

stays : {s : ScanState} → Plain s → (a : ℕ) → eqb a 123 ≡ false → eqb a 46 ≡ false → Plain (step s a)
unfolding step
stays slash a h k = either (is_name_start_byte a) name dead
stays name a h k = rw (h, k) (either (is_name_byte a) name (either (eqb a 47) slash dead))
stays dead a h k = dead

reads_plain : {s : ScanState} → Plain s → (r : Text) → lacks_byte 123 r ≡ true → lacks_byte 46 r ≡ true → Plain (run s r)
unfolding run
reads_plain {s = s} o [] f g = o
reads_plain {s = s} o (a ∷ r) f g =
    reads_plain {s = step s a} (stays o a (lacks_first 123 a r f) (lacks_first 46 a r g)) r (lacks_rest 123 a r f) (lacks_rest 46 a r g)

accepts_name : {s : ScanState} → Plain s → accept s ≡ true → s ≡ Name
unfolding accept
accepts_name slash e = absurd (false≢true e)
accepts_name name e = refl
accepts_name dead e = absurd (false≢true e)

-- After a prim path the automaton is in a name.
in_name : (a b : ℕ) (x : Text) → is_end (a ∷ b ∷ x) ≡ true → accept (run Slash (b ∷ x)) ≡ true → run Slash (b ∷ x) ≡ Name
in_name a b x e h =
    let s : Text = a ∷ b ∷ x in
    accepts_name (reads_plain slash (b ∷ x) (lacks_rest 123 a (b ∷ x) (end_lacks s e)) (lacks_rest 46 a (b ∷ x) (end_undotted s e))) h

-- The automaton accepts an end.
end_accepted : (s : Text) → is_end s ≡ true → scan_accepts s ≡ true
end_accepted s e = own_scan s (end_own_legal s e)

pub after_end : (s y : Text) → is_end s ≡ true → is_nil s ≡ false → is_root s ≡ false → scan_accepts (s ++ y) ≡ accept (run Name y)
unfolding scan_accepts
after_end [] y e n h = absurd (true≢false n)
after_end (a ∷ []) y e n h = absurd (true≢false (sym (end_accepted (a ∷ []) e) ∙ h))
after_end (a ∷ b ∷ x) y e n h =
    let c : Bool = accept (run Slash (b ∷ x)) in
    let l : (eqb a 47 && c) ≡ true = end_accepted (a ∷ b ∷ x) e in
    rw (and_l (eqb a 47) c l, run_app Slash (b ∷ x) y, in_name a b x e (and_r (eqb a 47) c l))

-- A text that may follow a slash may follow an end and a slash.
under_stem : (t y : Text) → is_end t ≡ true → accept (run Slash y) ≡ true → scan_accepts (stem t ++ 47 ∷ y) ≡ true
unfolding scan_accepts run step is_name_byte
under_stem [] y et e = rw (stem_not [] (47 ∷ y) refl) (or_right (is_nil y) (accept (run Slash y)) e)
under_stem (c ∷ t) y et e = go (is_root (c ∷ t)) refl
  where
    go : (b : Bool) → is_root (c ∷ t) ≡ b → scan_accepts (stem (c ∷ t) ++ 47 ∷ y) ≡ true
    go true h = rw (root_is (c ∷ t) h, stem_root) (or_right (is_nil y) (accept (run Slash y)) e)
    go false h = rw (stem_not (c ∷ t) (47 ∷ y) h) (after_end (c ∷ t) (47 ∷ y) et refl h ∙ e)

-- The part of a legal text without brackets after its first slash is accepted.
slash_legal : (a : ℕ) (r : Text) → scan_accepts (47 ∷ a ∷ r) ≡ true → accept (run Slash (a ∷ r)) ≡ true
unfolding scan_accepts
slash_legal a r e = e

-- `.` and `{` may not follow `/`.
dies : (a : ℕ) (r : Text) → step Slash a ≡ Dead → scan_accepts (47 ∷ a ∷ r) ≡ false
unfolding scan_accepts run accept
dies a r h = ap (λ (s : ScanState). accept (run s r)) h ∙ rw (run_dead r)

suffix_dies : (a : ℕ) (r : Text) → (eqb a 46 || eqb a 123) ≡ true → scan_accepts (47 ∷ a ∷ r) ≡ false
unfolding step is_name_start_byte
suffix_dies a r h = go (eqb a 46) (eqb a 123) refl refl h
  where
    go : (b c : Bool) → eqb a 46 ≡ b → eqb a 123 ≡ c → (b || c) ≡ true → scan_accepts (47 ∷ a ∷ r) ≡ false
    go true c e f h = rw (eqb-true a 46 e) (dies 46 r refl)
    go false true e f h = rw (eqb-true a 123 f) (dies 123 r refl)
    go false false e f h = absurd (false≢true h)

no_suffix : (a : ℕ) (r : Text) → scan_accepts (47 ∷ a ∷ r) ≡ true → (eqb a 46 || eqb a 123) ≡ false
no_suffix a r l = go (eqb a 46 || eqb a 123) refl
  where
    go : (b : Bool) → (eqb a 46 || eqb a 123) ≡ b → b ≡ false
    go true h = absurd (true≢false (sym l ∙ suffix_dies a r h))
    go false h = refl

-- A remainder that begins with `.` or `{` may follow only a prim path.
suffix_legal : (t : Text) (a : ℕ) (r : Text) → is_end t ≡ true → eqb a 47 ≡ false → (eqb a 46 || eqb a 123) ≡ true → accept (run Name (a ∷ r)) ≡ true
    → scan_accepts (t ++ a ∷ r) ≡ not (is_nil t || is_root t)
unfolding scan_accepts
suffix_legal [] a r et k g e = rw k
suffix_legal (c ∷ t) a r et k g e = go (is_root (c ∷ t)) refl
  where
    go : (b : Bool) → is_root (c ∷ t) ≡ b → scan_accepts ((c ∷ t) ++ a ∷ r) ≡ not b
    go true i = ap (λ (x : Text). scan_accepts (x ++ a ∷ r)) (root_is (c ∷ t) i) ∙ suffix_dies a r g
    go false i = after_end (c ∷ t) (a ∷ r) et refl i ∙ e

-- Without brackets, a joined text is illegal only if the new prefix is `/` or empty and the remainder begins with `.` or `{`.
scan_join : (s t r : Text) → scan_accepts (s ++ r) ≡ true → is_end s ≡ true → is_nil s ≡ false → is_end t ≡ true → can_follow s r ≡ true
    → scan_accepts (join s t r) ≡ not (join_illegal t r)
unfolding join_illegal can_follow run step is_name_start_byte is_name_byte
scan_join s t [] l es ns et j = rw (join_none s t, and_no (is_nil t || is_root t)) (end_accepted t et)
scan_join s t (a ∷ r) l es ns et j = root (is_root s) refl
  where
    other : is_root s ≡ false → eqb a 47 ≡ false → accept (run Name (a ∷ r)) ≡ true → scan_accepts (join s t (a ∷ r)) ≡ not (join_illegal t (a ∷ r))
    other h k e =
        let g : (eqb a 46 || eqb a 123) ≡ true = sym (or_false (eqb a 46 || eqb a 123)) ∙ rw (h, k, end_close s es) at j in
        rw (join_other s t a r h (end_close s es) k, g, and_yes (is_nil t || is_root t)) (suffix_legal t a r et k g e)

    slashed : (b : Bool) → is_root s ≡ false → accept (run Name (a ∷ r)) ≡ true → eqb a 47 ≡ b → scan_accepts (join s t (a ∷ r)) ≡ not (join_illegal t (a ∷ r))
    slashed true h e k =
        rw (eqb-true a 47 k, join_slash s t r h (end_close t et), and_no (is_nil t || is_root t)) (under_stem t r et (rw (eqb-true a 47 k) at e))
    slashed false h e k = other h k e

    root : (b : Bool) → is_root s ≡ b → scan_accepts (join s t (a ∷ r)) ≡ not (join_illegal t (a ∷ r))
    root true h =
        let i : scan_accepts (47 ∷ a ∷ r) ≡ true = rw (root_is s h) at l in
        rw (root_is s h, join_root t a r, no_suffix a r i, and_no (is_nil t || is_root t)) (under_stem t (a ∷ r) et (slash_legal a r i))
    root false h = slashed (eqb a 47) h (sym (after_end s (a ∷ r) es ns h) ∙ l) refl

-- Joining cuts no character: the remainder follows an end, and the bytes between are slashes.
body_allowed : (s r : Text) → characters_allowed r ≡ true → characters_allowed (body s r) ≡ true
unfolding body
body_allowed s [] e = e
body_allowed s (a ∷ r) e = go (is_root s) (eqb a 47) refl
  where
    go : (b c : Bool) → eqb a 47 ≡ c → characters_allowed (cond (not b && c) r (a ∷ r)) ≡ true
    go true c h = e
    go false true h = let z : a ≡ 47 = eqb-true a 47 h in sym (allowed_ascii 47 refl r) ∙ rw z at e
    go false false h = e

separator_allowed : (n : ℕ) → characters_allowed (take n (47 ∷ [])) ≡ true
separator_allowed zero = allowed_none
separator_allowed (suc zero) = allowed_ascii 47 refl [] ∙ allowed_none
separator_allowed (suc (suc n)) = allowed_ascii 47 refl [] ∙ allowed_none

pub join_allowed : (s t r : Text) → characters_allowed t ≡ true → characters_allowed r ≡ true → characters_allowed (join s t r) ≡ true
unfolding join separator
join_allowed s t r e f =
    allowed_join t (take (separator_len s t r) (47 ∷ []) ++ body s r) e
    (allowed_join (take (separator_len s t r) (47 ∷ [])) (body s r) (separator_allowed (separator_len s t r)) (body_allowed s r f))

own_join_legal : (s t r : Text) → legal_own (s ++ r) ≡ true → is_end s ≡ true → is_nil s ≡ false → is_end t ≡ true → can_follow s r ≡ true
    → legal_own (join s t r) ≡ not (join_illegal t r)
own_join_legal s t r l es ns et j =
    own_by_scan (join s t r)
    (join_allowed s t r (own_allowed t (end_own_legal t et)) (sym (allowed_after_lem s r (own_allowed s (end_own_legal s es))) ∙ own_allowed (s ++ r) l))
    ∙ scan_join s t r (own_scan (s ++ r) l) es ns et j

-- With brackets: the own part of the joined text is the join of the own parts, and the target part is left as it is.
joined_legal : (s t : Text) (a : ℕ) (r : Text) → legal (s ++ a ∷ r) ≡ true → is_end s ≡ true → is_nil s ≡ false → is_end t ≡ true → can_follow s (a ∷ r) ≡ true
    → legal (join s t (a ∷ r)) ≡ not (join_illegal t (a ∷ r))
unfolding can_follow join_illegal
joined_legal s t a r l es ns et j =
    rw (join_own s t a r b)
    (legal_as (s ++ a ∷ r) (made ++ target_part (a ∷ r)) l property targets
    ∙ ap legal_own (own_of made (a ∷ r) made-unbracketed)
    ∙ own_join_legal s t (a ∷ own_part r) (rw (own_after s (a ∷ r) us, own_cons a r b) at (legal_own_part (s ++ a ∷ r) l)) es ns et j)
  where
    us : lacks_byte 91 s ≡ true
    us = end_unbracketed s es

    b : eqb a 91 ≡ false
    b = no_bracket s a r es l

    made : Text
    made = join s t (a ∷ own_part r)

    made-lacks : (c : ℕ) → eqb 47 c ≡ false → lacks_byte c t ≡ true → lacks_byte c made ≡ lacks_byte c (own_part (a ∷ r))
    made-lacks c h k = join_lacks c h s t (a ∷ own_part r) k ∙ ap (lacks_byte c) (sym (own_cons a r b))

    made-unbracketed : lacks_byte 91 made ≡ true
    made-unbracketed = made-lacks 91 refl (end_unbracketed t et) ∙ own_lacks (a ∷ r)

    targets : target_part (made ++ target_part (a ∷ r)) ≡ target_part (s ++ a ∷ r)
    targets = target_of made (a ∷ r) made-unbracketed ∙ sym (target_after s (a ∷ r) us)

    property : has_property (made ++ target_part (a ∷ r)) ≡ has_property (s ++ a ∷ r)
    property =
        property_scan (made ++ target_part (a ∷ r))
        ∙ ap not (ap (lacks_byte 46) (own_of made (a ∷ r) made-unbracketed) ∙ made-lacks 46 refl (end_undotted t et) ∙ sym (lacks_own_after s (a ∷ r) us 46 (end_undotted s es)))
        ∙ sym (property_scan (s ++ a ∷ r))

pub join_legal : JoinLegal
unfolding join_illegal
join_legal s t [] l es ns et j = rw (join_none s t, and_no (is_nil t || is_root t)) (end_legal t et)
join_legal s t (a ∷ r) l es ns et j = joined_legal s t a r l es ns et j
