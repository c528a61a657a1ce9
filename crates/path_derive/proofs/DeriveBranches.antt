-- Lemmas for the branches of `write_joined`, for a text j that was built in a scratch buffer of 255 bytes.
use Rattle.std.specs.Prelude.{Ok, Err, Option, Some}
use mathlib.Core.Path.{◌≡◌, refl, sym, ◌∙◌}
use mathlib.Core.Bool.{Bool, true, false, not}
use Prim.Native.Nat.{ℕ, ◌≤◌}
use native.Mathlib.Omega.{arith}
use lib.ListN.{length, take}
use borrow.Author.Tests.{le-leb}
use Rattle.text.specs.Text.{Text, written_if_fits, fit_of}
use Rattle.text.proofs.BoolLaws.{known_false, known_true}
use Rattle.text.proofs.WriteLaws.{fit_room, fit_is, fit_back}
use Rattle.path_grammar.specs.Legal.{legal, at_most255}
use Rattle.refusal.proofs.PassedLaws.{made_legal}
use Rattle.refusal.specs.declared.Refusal.TheVariants.{MadeIllegal}
use Rattle.refusal.specs.Outcome.{outcome_reply, outcome_buffer, checked}

module _ (j buf : Text) (f : Option ℕ) (h : f ≡ fit_of j buf) (l : length buf ≡ 255) where
  module _ (n : ℕ) (e : f ≡ Some n) where
    made_short : length j ≤ 255
    made_short = omega (arith, fit_room j buf n (sym h ∙ e))

    module _ (mem : Text) (m : mem ≡ written_if_fits 0 j buf) where
      pub made_illegal : (x : Bool) → x ≡ legal (take n mem) → not x ≡ true → (out : Text) → (Err MadeIllegal ≡ outcome_reply (checked j)) × (out ≡ outcome_buffer (checked j) out)
      unfolding outcome_reply outcome_buffer checked at_most255
      made_illegal x g k out =
          let b : legal j ≡ false = rw (fit_back j buf f h n e mem m) at (known_false g k) in
          rw (le-leb (length j) 255 made_short, b) (refl, refl)

      pub made_written : (x : Bool) → x ≡ legal (take n mem) → not x ≡ false → (out out' : Text) → 255 ≤ length out → out' ≡ written_if_fits 0 (take n mem) out
          → (Ok n ≡ outcome_reply (checked j)) × (out' ≡ outcome_buffer (checked j) out)
      made_written x g k out out' r w =
          let b : legal j ≡ true = rw (fit_back j buf f h n e mem m) at (known_true g k) in
          rw (w, fit_back j buf f h n e mem m, fit_is j buf f h n e) (made_legal j made_short b out r)
