-- Lemmas about how the automaton reads legal texts.
use mathlib.Core.Path.{◌≡◌, refl}
use mathlib.Core.Bool.{Bool, true, false, cond}
use mathlib.Core.List.{[], ◌∷◌}
use lib.Dec.{eqb}
use borrow.Author.Tests.{eqb-true}
use Rattle.text.specs.Text.{Text}
use Rattle.text.proofs.BoolLaws.{and_l, and_r}
use Rattle.path_grammar.specs.Legal.{ScanState, Slash, Name, Opened, Set, Equals, Sel, Closed, Dot, Prop, Dead, step, run, accept, scan_accepts}
use Rattle.path_grammar.proofs.RunLaws.{dead_refuses}

-- A text that the automaton accepts is empty, or `/`, or a slash before a text that the automaton accepts.
pub data Shape : Text → Type 0 where
  empty : Shape []
  root : Shape (47 ∷ [])
  below : (r : Text) → accept (run Slash r) ≡ true → Shape (47 ∷ r)

pub shape : (p : Text) → scan_accepts p ≡ true → Shape p
unfolding scan_accepts
shape [] e = empty
shape (a ∷ []) e = rw (eqb-true a 47 (and_l (eqb a 47) true e)) root
shape (a ∷ b ∷ r) e =
    rw (eqb-true a 47 (and_l (eqb a 47) (accept (run Slash (b ∷ r))) e)) (below (b ∷ r) (and_r (eqb a 47) (accept (run Slash (b ∷ r))) e))

-- The two branches in which the automaton can continue after a test.
pub choose : {G : Type 0} (b : Bool) (x y : ScanState) (r : Text) → (b ≡ true → accept (run x r) ≡ true → G) → (b ≡ false → accept (run y r) ≡ true → G)
    → accept (run (cond b x y) r) ≡ true → G
choose true x y r f g e = f refl e
choose false x y r f g e = g refl e

pub dies : {G : Type 0} (r : Text) → accept (run Dead r) ≡ true → G
dies r e = absurd (dead_refuses r e)

-- A `}` is read only after the variant of a selection.
pub closes : (s : ScanState) (r : Text) → accept (run (step s 125) r) ≡ true → step s 125 ≡ Closed
unfolding step
closes Slash r e = dies r e
closes Name r e = dies r e
closes Opened r e = dies r e
closes Set r e = dies r e
closes Equals r e = dies r e
closes Sel r e = refl
closes Closed r e = dies r e
closes Dot r e = dies r e
closes Prop r e = dies r e
closes Dead r e = dies r e
