-- Lemmas about the branches of `all_at_most` and `all_short`.
use Rattle.std.specs.Bool.{MatchBool}
use mathlib.Core.Path.{◌≡◌, refl, sym, ◌∙◌}
use mathlib.Core.Bool.{Bool, true, false, ◌&&◌}
use mathlib.Core.List.{List}
use Prim.Native.Nat.{ℕ, zero, suc, ◌+◌, ◌*◌, ◌<◌}
use native.Mathlib.Omega.{arith}
use native.Mathlib.Decide.{ℕ_discrete}
use Rattle.text.specs.Text.{Text}
use Rattle.text.proofs.BoolLaws.{and_no, and_assoc}
use Rattle.path_grammar.specs.Legal.{at_most255}
use Rattle.pair_list.specs.Pair.{Pair, every_end, all_short}
use Rattle.pair_list.specs.Places.{key_at, pair_in, pairs_in}
use Rattle.pair_buffer.specs.Ends.{at_most}
use Rattle.pair_buffer.proofs.EveryLaws.{every_snoc}

module _ (k : ℕ) (store : Text) (places : List ℕ) where
  abbrev short : ℕ → Bool
  short n = every_end (at_most k) (pairs_in store places n)

  short_next : (i : ℕ) → short (suc i) ≡ (short i && (at_most k (key_at store places false i) && at_most k (key_at store places true i)))
  unfolding pairs_in pair_in
  short_next i =
      let z : 2 * i + 0 ≡ 2 * i = omega arith in
      rw z
      (every_snoc (at_most k) (pairs_in store places i) (pair_in store places i)
      ∙ and_assoc (short i) (at_most k (pair_in store places i).source) (at_most k (pair_in store places i).target))

  one_too_long : (n i : ℕ) → i < n → (at_most k (key_at store places false i) && at_most k (key_at store places true i)) ≡ false → short n ≡ false
  one_too_long zero i h e = absurd (omega arith)
  one_too_long (suc n) i h e =
      elim (ℕ_discrete i n) [
        | yes q ↦ short_next n ∙ rw (rw q at e) (and_no (short n))
        | no d ↦ short_next n ∙ rw (one_too_long n i (omega arith) e)
      ]

  none_too_long : (n : ℕ) → ((i : ℕ) → i < n → (at_most k (key_at store places false i) && at_most k (key_at store places true i)) ≡ true) → short n ≡ true
  unfolding pairs_in every_end
  none_too_long zero f = refl
  none_too_long (suc n) f = short_next n ∙ rw (none_too_long n (λ i h. f i (omega arith)), f n (omega arith))

  -- What the test of the first n pairs answers.
  pub short_in : (n : ℕ) (r : Bool)
      → MatchBool r ((i : ℕ) → i < n → (at_most k (key_at store places false i) && at_most k (key_at store places true i)) ≡ true)
      ((i : ℕ) × (i < n) × ((at_most k (key_at store places false i) && at_most k (key_at store places true i)) ≡ false))
      → r ≡ short n
  short_in n true w = sym (none_too_long n w)
  short_in n false w = sym (one_too_long n w.0 w.1 w.2)

-- `all_short`
pub short_all : (r : Bool) (l : List Pair) → r ≡ every_end (at_most 255) l → r ≡ all_short l
unfolding all_short at_most255
short_all r l e = e
