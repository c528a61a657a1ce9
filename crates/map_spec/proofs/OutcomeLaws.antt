-- Lemmas about outcomes that are paths.
use Rattle.std.specs.Prelude.{Option, Some, None}
use mathlib.Core.Path.{◌≡◌, refl, ap}
use mathlib.Core.Bool.{Bool, true, false, cond}
use Prim.Native.Nat.{ℕ}
use native.Mathlib.Omega.{arith}
use Rattle.text.specs.Text.{Text}
use Rattle.path_grammar.specs.Legal.{legal, at_most255}
use Rattle.refusal.specs.declared.Refusal.{Refusal}
use Rattle.refusal.specs.declared.Refusal.TheVariants.{MadeTooLong, MadeIllegal}
use Rattle.refusal.specs.Outcome.{path, refused, checked_option}

-- A refusal is not a path.
pub no_path_lem : {x : Refusal} {q : Text} → refused x ≡ path q → ⊥
no_path_lem {x} {q} e = let z : ◌≡◌ {A = ℕ} 0 1 = cc in omega arith

-- If the outcome is a path, the definition yields it, and it is legal and has at most 255 bytes.
pub checked_path : (o : Option Text) (q : Text) → checked_option o ≡ path q → (o ≡ Some q) × (at_most255 q ≡ true) × (legal q ≡ true)
unfolding checked_option
checked_path None q e = absurd (no_path_lem e)
checked_path (Some r) q e = go (at_most255 r) refl (legal r) refl e
  where
    go : (a : Bool) → at_most255 r ≡ a → (b : Bool) → legal r ≡ b → cond a (cond b (path r) (refused MadeIllegal)) (refused MadeTooLong) ≡ path q
        → (Some r ≡ Some q) × (at_most255 q ≡ true) × (legal q ≡ true)
    go true h true k e = let z : r ≡ q = cc in (ap Some z, rw z at h, rw z at k)
    go true h false k e = absurd (no_path_lem e)
    go false h b k e = absurd (no_path_lem e)

-- A legal path of at most 255 bytes that the definition yields is the outcome.
pub path_checked : (q : Text) → at_most255 q ≡ true → legal q ≡ true → checked_option (Some q) ≡ path q
unfolding checked_option
path_checked q h k = rw (h, k)
