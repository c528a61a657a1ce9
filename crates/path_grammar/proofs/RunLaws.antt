-- Lemmas about runs of the automaton: on concatenated texts, from the dead state, and at bytes that no path without brackets contains.
use mathlib.Core.Path.{◌≡◌, refl}
use mathlib.Core.Bool.{Bool, true, false, not, ◌&&◌, false≢true}
use mathlib.Core.List.{[], ◌∷◌, ◌++◌}
use Prim.Native.Nat.{ℕ}
use lib.Dec.{eqb}
use borrow.Author.Tests.{eqb-true}
use Rattle.text.specs.Text.{Text, lacks_byte}
use Rattle.path_grammar.specs.Legal.{ScanState, Slash, Name, Opened, Set, Equals, Sel, Closed, Dot, Prop, Dead, is_name_start_byte, is_name_byte, is_variant_byte, step, run, accept}

pub run_app : (s : ScanState) (x y : Text) → run s (x ++ y) ≡ run (run s x) y
unfolding run
run_app s [] y = refl
run_app s (a ∷ x) y = run_app (step s a) x y

-- The automaton stays in the dead state.
pub run_dead : (r : Text) → run Dead r ≡ Dead
unfolding run step
run_dead [] = refl
run_dead (a ∷ r) = run_dead r

pub dead_refuses : (r : Text) → accept (run Dead r) ≡ true → ⊥
unfolding accept
dead_refuses r e = false≢true (rw (run_dead r) at e)

-- A byte that the automaton reads in no state.
pub record Unread (b : ℕ) : Type 0 where
  pub start : is_name_start_byte b ≡ false
  pub cont : is_name_byte b ≡ false
  pub variant : is_variant_byte b ≡ false
  pub slash : eqb b 47 ≡ false
  pub open_brace : eqb b 123 ≡ false
  pub close_brace : eqb b 125 ≡ false
  pub dot : eqb b 46 ≡ false
  pub equals : eqb b 61 ≡ false
  pub colon : eqb b 58 ≡ false

pub unread_dead : {b : ℕ} → Unread b → (s : ScanState) → step s b ≡ Dead
unfolding step
unread_dead u Slash = rw u.start
unread_dead u Name = rw (u.cont, u.slash, u.open_brace, u.dot)
unread_dead u Opened = rw u.start
unread_dead u Set = rw (u.cont, u.equals)
unread_dead u Equals = rw u.variant
unread_dead u Sel = rw (u.variant, u.close_brace)
unread_dead u Closed = rw (u.start, u.open_brace, u.dot)
unread_dead u Dot = rw u.start
unread_dead u Prop = rw (u.cont, u.colon)
unread_dead u Dead = refl

-- So no text that it accepts has such a byte.
pub run_lacks : {b : ℕ} → Unread b → (s : ScanState) (r : Text) → accept (run s r) ≡ true → lacks_byte b r ≡ true
unfolding run lacks_byte
run_lacks u s [] e = refl
run_lacks {b} u s (a ∷ r) e = go (eqb a b) refl (run_lacks u (step s a) r e)
  where
    go : (t : Bool) → eqb a b ≡ t → lacks_byte b r ≡ true → (not (eqb a b) && lacks_byte b r) ≡ true
    go true h f = absurd (dead_refuses r (rw (eqb-true a b h, unread_dead u s) at e))
    go false h f = rw h f

-- The brackets, and the byte 0, are such bytes.
pub open_unread : Unread 91
unfolding is_name_start_byte is_name_byte is_variant_byte
open_unread = record { start = refl; cont = refl; variant = refl; slash = refl; open_brace = refl; close_brace = refl; dot = refl; equals = refl; colon = refl }

pub close_unread : Unread 93
unfolding is_name_start_byte is_name_byte is_variant_byte
close_unread = record { start = refl; cont = refl; variant = refl; slash = refl; open_brace = refl; close_brace = refl; dot = refl; equals = refl; colon = refl }

pub null_unread : Unread 0
unfolding is_name_start_byte is_name_byte is_variant_byte
null_unread = record { start = refl; cont = refl; variant = refl; slash = refl; open_brace = refl; close_brace = refl; dot = refl; equals = refl; colon = refl }
