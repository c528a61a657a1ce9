-- Lemmas about the branches of `analyze_relocate_occurrences`.
use Rattle.std.specs.Prelude.{Result, Ok, Err, ⊤}
use mathlib.Core.Path.{◌≡◌, refl, sym, ◌∙◌}
use mathlib.Core.List.{[], ◌∷◌}
use Prim.Native.Nat.{ℕ, ◌≤◌, ◌<◌}
use borrow.Author.Tests.{le-leb, lt-leb}
use Rattle.text.specs.Text.{Text, written}
use Rattle.refusal.specs.declared.Refusal.{Refusal}
use Rattle.refusal.specs.declared.Refusal.TheVariants.{NoRoom}
use Rattle.validate.specs.Validate.{LentList, pairs_of, validate_call}
use Rattle.validate.proofs.PassedLaws.{first_sound, empty_validated}
use Rattle.relocates.specs.Status.{status_list}
use Rattle.relocates.specs.Calls.{analyze_reply, analyze_buffer}

module _ (l : LentList) (q : Result ⊤ Refusal) (h : q ≡ validate_call (l ∷ []) ([] ∷ []) []) where
  pub analyze_few : q ≡ Ok tt → l.count ≤ 64
  analyze_few k = (first_sound l [] ([] ∷ []) [] (sym h ∙ k)).few

  module _ (room : ℕ) (out : Text) where
    pub analyze_refused : (x : Refusal) → q ≡ Err x → (Err x ≡ analyze_reply l room) × (out ≡ analyze_buffer (Err x) l out)
    unfolding analyze_reply
    analyze_refused x k = (rw (← (empty_validated l), ← h, k), refl)

    pub analyze_short : q ≡ Ok tt → room < l.count → (Err NoRoom ≡ analyze_reply l room) × (out ≡ analyze_buffer (Err NoRoom) l out)
    unfolding analyze_reply
    analyze_short k r = (rw (← (empty_validated l), ← h, k, lt-leb l.count room r), refl)

    pub analyze_written : q ≡ Ok tt → l.count ≤ room → (out' : Text) → out' ≡ written (status_list (pairs_of l) l.count) out
        → (Ok l.count ≡ analyze_reply l room) × (out' ≡ analyze_buffer (Ok l.count) l out)
    unfolding analyze_reply
    analyze_written k r out' m = (rw (← (empty_validated l), ← h, k, le-leb l.count room r), m)
