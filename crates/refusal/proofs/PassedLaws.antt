-- A text that passed validation, and a path made from it that is legal and not too long.
use Rattle.std.specs.Prelude.{Result, Ok, Err, ⊤}
use mathlib.Core.Path.{◌≡◌, refl, sym}
use mathlib.Core.Bool.{Bool, true, false, cond}
use mathlib.Core.List.{[], ◌∷◌}
use Prim.Native.Nat.{ℕ, ◌≤◌}
use native.Mathlib.Omega.{arith}
use lib.Dec.{leb}
use lib.ListN.{length}
use borrow.Author.Tests.{le-leb, leb-true}
use Rattle.text.specs.Text.{Text, written_if_fits}
use Rattle.text.proofs.BoolLaws.{and_l}
use Rattle.text.proofs.WriteLaws.{placed_first}
use Rattle.path_grammar.specs.Legal.{legal, at_most255}
use Rattle.refusal.specs.declared.Refusal.TheVariants.{TooLong, Illegal}
use Rattle.refusal.specs.Refusal.{validate_texts, all_texts_short, all_texts_legal}
use Rattle.refusal.specs.Outcome.{outcome_reply, outcome_buffer, checked, ReturnsPath}
use Rattle.refusal.specs.declared.Refusal.{Refusal}

-- Both questions were answered yes.
both_passed : {x : Result ⊤ Refusal} → x ≡ Ok tt → (a b : Bool) → cond a (cond b (Ok tt) (Err Illegal)) (Err TooLong) ≡ x → (a ≡ true) × (b ≡ true)
both_passed {x} e true true h = (refl, refl)
both_passed {x} e true false h = absurd (let z : ◌≡◌ {A = ℕ} 0 1 = cc in omega arith)
both_passed {x} e false b h = absurd (let z : ◌≡◌ {A = ℕ} 0 1 = cc in omega arith)

module _ (p : Text) (q : Result ⊤ Refusal) (h : q ≡ validate_texts (p ∷ [])) (k : q ≡ Ok tt) where
  passed : (all_texts_short (p ∷ []) ≡ true) × (all_texts_legal (p ∷ []) ≡ true)
  unfolding validate_texts
  passed = both_passed k (all_texts_short (p ∷ [])) (all_texts_legal (p ∷ [])) (sym h)

  pub passed_short : length p ≤ 255
  unfolding all_texts_short
  passed_short = leb-true (length p) 255 (and_l (leb (length p) 255) true passed.0)

  pub passed_legal : legal p ≡ true
  unfolding all_texts_legal
  passed_legal = and_l (legal p) true passed.1

-- A path that was built and is legal.
pub made_legal : (q : Text) → length q ≤ 255 → legal q ≡ true → (out : Text) → 255 ≤ length out
    → ReturnsPath (checked q) (Ok (length q)) out (written_if_fits 0 q out)
unfolding outcome_reply outcome_buffer checked at_most255
made_legal q h l out r = rw (le-leb (length q) 255 h, l) (refl, placed_first q out (omega arith))
