-- Telling answers apart: a function to numbers that gives two answers different numbers shows that they differ, and numbers are compared by
-- computing.
use Rattle.std.specs.Prelude.{Result, Ok, Err, ⊤}
use mathlib.Core.Path.{◌≡◌, sym, ap, ◌∙◌}
use mathlib.Core.Logic.{◌≢◌}
use mathlib.Core.Bool.{Bool, true, false, true≢false}
use mathlib.Core.List.{[], ◌∷◌}
use Prim.Native.Nat.{ℕ, ◌+◌, ◌*◌}
use lib.Dec.{eqb}
use Rattle.text.specs.Text.{Text}
use Rattle.text.proofs.BoolLaws.{eqb_self}
use Rattle.layer_offset.specs.declared.LayerOffset.{LayerOffset}
use Rattle.layer_offset.specs.Number.{bit_pattern}
use Rattle.refusal.specs.Refusal.{refusal_number}
use Rattle.refusal.specs.Outcome.{Outcome, path, refused}
use Rattle.relocate_chain.specs.Chain.{Chained, chained, stopped}
use Rattle.refusal.specs.declared.Refusal.{Refusal}
use Rattle.path_prefix.specs.declared.Elements.{Elements}

-- Values to which a function gives different numbers are not equal.
pub apart : {A : Type 0} (f : A → ℕ) {x y : A} → eqb (f x) (f y) ≡ false → x ≢ y
apart {A} f {x} {y} h e = true≢false (sym (eqb_self (f y)) ∙ ap (λ (z : A). eqb (f z) (f y)) (sym e) ∙ h)

-- A number for a list of numbers below 256: its digits to the base 256, after a leading one.
unfoldable pub text_number : Text → ℕ
text_number [] = 1
text_number (b ∷ t) = b + 256 * text_number t

unfoldable pub bool_number : Bool → ℕ
bool_number true = 1
bool_number false = 0

-- The numbers of replies; refusals have numbers below 16.
unfoldable pub validation_number : Result ⊤ Refusal → ℕ
validation_number (Ok tt) = 0
validation_number (Err x) = refusal_number x

unfoldable pub test_number : Result Bool Refusal → ℕ
unfolding bool_number
test_number (Ok b) = 16 + bool_number b
test_number (Err x) = refusal_number x

unfoldable pub count_number : Result Elements Refusal → ℕ
count_number (Ok n) = 16 + n.0
count_number (Err x) = refusal_number x

unfoldable pub reply_number : Result ℕ Refusal → ℕ
reply_number (Ok n) = 16 + n
reply_number (Err x) = refusal_number x

unfoldable pub outcome_number : Outcome → ℕ
unfolding text_number
outcome_number (path q) = 16 * text_number q
outcome_number (refused x) = refusal_number x

unfoldable pub chain_number : Chained → ℕ
unfolding text_number
chain_number (chained q k) = 16 + k + 256 * text_number q
chain_number (stopped x) = refusal_number x

-- The bits of both numbers of a time offset, 64 each.
unfoldable pub time_number : LayerOffset → ℕ
time_number o = bit_pattern o.offset + 18446744073709551616 * bit_pattern o.scale
