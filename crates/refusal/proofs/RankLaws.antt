-- The order of refusals: distinct refusals have distinct ranks, so of two failed questions exactly one is put first.
use mathlib.Core.Path.{◌≡◌, refl, sym, ap, ◌∙◌}
use mathlib.Core.Bool.{cond}
use Prim.Native.Nat.{ℕ}
use lib.Dec.{eqb}
use Rattle.refusal.specs.declared.Refusal.{Refusal}
use Rattle.refusal.specs.declared.Refusal.TheVariants.{TooLong, Illegal, NotAnEnd, TooMany, NoRoom, NoPath, MadeTooLong, MadeIllegal}
use Rattle.refusal.specs.Refusal.{refusal_rank}

-- The refusal x if n is its rank, otherwise y.
abbrev at_rank : Refusal → ℕ → Refusal → Refusal
at_rank x n y = cond (eqb n (refusal_rank x)) x y

-- The refusal with a given rank; the last one for a number that is no rank.
abbrev refusal_of : ℕ → Refusal
refusal_of n = at_rank TooLong n (at_rank Illegal n (at_rank NotAnEnd n (at_rank TooMany n (at_rank NoRoom n (at_rank NoPath n (at_rank MadeTooLong n MadeIllegal))))))

rank_known : (x : Refusal) → refusal_of (refusal_rank x) ≡ x
rank_known TooLong = refl
rank_known Illegal = refl
rank_known NotAnEnd = refl
rank_known TooMany = refl
rank_known NoRoom = refl
rank_known NoPath = refl
rank_known MadeTooLong = refl
rank_known MadeIllegal = refl

-- A refusal can be read off its rank, so no two have the same.
pub rank_distinct : (x y : Refusal) → refusal_rank x ≡ refusal_rank y → x ≡ y
rank_distinct x y e = sym (rank_known x) ∙ ap (λ (n : ℕ). refusal_of n) e ∙ rank_known y
