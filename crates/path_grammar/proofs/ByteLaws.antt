-- Lemmas for the tests of `is_name_start_byte`, `is_name_byte` and `is_root`.
use mathlib.Core.Path.{◌≡◌, refl, sym}
use mathlib.Core.Logic.{◌≢◌}
use mathlib.Core.Bool.{Bool, false, ◌&&◌, ◌||◌}
use mathlib.Core.List.{[], ◌∷◌}
use Prim.Native.Nat.{ℕ}
use native.Mathlib.Omega.{arith}
use lib.Dec.{eqb, leb}
use lib.ListN.{length, get_or}
use Rattle.text.specs.Text.{Text}
use Rattle.text.proofs.BoolLaws.{and_no, and_yes}
use Rattle.path_grammar.specs.Legal.{is_name_start_byte, is_name_byte, is_root}

module _ (a : ℕ) (b c : Bool) where
  pub start_tests : b ≡ (leb 65 a && leb a 90) → c ≡ (leb 97 a && leb a 122) → (b || c || eqb a 95 || leb 128 a) ≡ is_name_start_byte a
  unfolding is_name_start_byte
  start_tests h k = rw (h, k)

  pub cont_tests : b ≡ is_name_start_byte a → c ≡ (leb 48 a && leb a 57) → (b || c) ≡ is_name_byte a
  unfolding is_name_byte
  cont_tests h k = rw (h, k)

pub root_one : (s : Text) → length s ≡ 1 → eqb (get_or s 0 0) 47 ≡ is_root s
root_one [] l = absurd (omega arith)
root_one (a ∷ []) l = sym (and_yes (eqb a 47))
root_one (a ∷ b ∷ s) l = absurd (omega arith)

pub root_other : (s : Text) → length s ≢ 1 → false ≡ is_root s
root_other [] l = refl
root_other (a ∷ []) l = absurd (l refl)
root_other (a ∷ b ∷ s) l = sym (and_no (eqb a 47))

pub ruleset bytes = (start_tests, cont_tests, root_one, root_other)
