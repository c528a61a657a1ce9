-- The theorem that an end is a text that the automaton accepts when `.` and `{` count as bytes that no path contains, and whose characters are allowed.
use mathlib.Core.Path.{◌≡◌, refl, sym, ap, ◌∙◌}
use mathlib.Core.Bool.{Bool, true, false, not, cond, ◌&&◌, ◌||◌}
use mathlib.Core.List.{[], ◌∷◌, map}
use lib.Dec.{eqb}
use borrow.Author.Tests.{eqb-true}
use Rattle.text.specs.Text.{Text, is_nil, lacks_byte}
use Rattle.text.proofs.BoolLaws.{and_no, and_yes}
use Rattle.characters.specs.NameCharacter.{characters_allowed}
use Rattle.path_grammar.specs.Legal.{ScanState, Slash, step, run, accept, scan_accepts, legal_own}
use Rattle.path_grammar.specs.PackedScan.{end_byte, EndsByScan}
use Rattle.path_grammar.proofs.RunLaws.{run_dead, unread_dead, null_unread}
use Rattle.path_grammar.proofs.LegalLaws.{end_own}

-- No path contains the byte 0.
null_refused : (s : ScanState) (r : Text) → accept (run (step s 0) r) ≡ false
unfolding accept
null_refused s r = rw (unread_dead null_unread s, run_dead r)

run_plain : (s : ScanState) (r : Text) → (accept (run s r) && (lacks_byte 123 r && lacks_byte 46 r)) ≡ accept (run s (map end_byte r))
unfolding run lacks_byte
run_plain s [] = and_yes (accept s)
run_plain s (a ∷ r) = go (eqb a 46) (eqb a 123) refl refl (run_plain (step s a) r)
  where
    go : (d o : Bool) → eqb a 46 ≡ d → eqb a 123 ≡ o → (accept (run (step s a) r) && (lacks_byte 123 r && lacks_byte 46 r)) ≡ accept (run (step s a) (map end_byte r))
        → (accept (run (step s a) r) && (not (eqb a 123) && lacks_byte 123 r && (not (eqb a 46) && lacks_byte 46 r))) ≡ accept (run (step s (end_byte a)) (map end_byte r))
    go true o h k ih = rw (h, and_no (not (eqb a 123) && lacks_byte 123 r), and_no (accept (run (step s a) r))) (sym (null_refused s (map end_byte r)))
    go false true h k ih = rw (h, k, and_no (accept (run (step s a) r))) (sym (null_refused s (map end_byte r)))
    go false false h k ih = rw (h, k) ih

scan_plain : (s : Text) → (scan_accepts s && (lacks_byte 123 s && lacks_byte 46 s)) ≡ scan_accepts (map end_byte s)
unfolding scan_accepts lacks_byte
scan_plain [] = refl
scan_plain (a ∷ r) = go (eqb a 47) refl
  where
    rest : (r : Text) → ((is_nil r || accept (run Slash r)) && (lacks_byte 123 r && lacks_byte 46 r)) ≡ (is_nil (map end_byte r) || accept (run Slash (map end_byte r)))
    rest [] = refl
    rest (b ∷ r) = run_plain Slash (b ∷ r)

    other-head : (d : Bool) → eqb a 47 ≡ false → eqb (cond d 0 a) 47 ≡ false
    other-head true h = refl
    other-head false h = h

    go : (b : Bool) → eqb a 47 ≡ b → (scan_accepts (a ∷ r) && (lacks_byte 123 (a ∷ r) && lacks_byte 46 (a ∷ r))) ≡ scan_accepts (map end_byte (a ∷ r))
    go true h = rw (eqb-true a 47 h) (rest r)
    go false h = rw (h, other-head (eqb a 46 || eqb a 123) h)

-- The conjunction of three tests, in another order.
turned : (a b c : Bool) → (a && b && c) ≡ (a && c && b)
turned true true c = sym (and_yes c)
turned true false c = sym (and_no c)
turned false b c = refl

pub ends_by_scan : EndsByScan
unfolding legal_own
ends_by_scan s =
    end_own s ∙ turned (scan_accepts s) (characters_allowed s) (lacks_byte 123 s && lacks_byte 46 s)
    ∙ ap (λ (b : Bool). b && characters_allowed s) (scan_plain s)
