-- Lemmas about the branches of `has_source`.
use Rattle.std.specs.Bool.{MatchBool}
use mathlib.Core.Path.{◌≡◌, refl, sym, ◌∙◌}
use mathlib.Core.Bool.{Bool, true, false, ◌||◌}
use mathlib.Core.List.{List, [], ◌∷◌, ◌++◌}
use Prim.Native.Nat.{ℕ, zero, suc, ◌+◌, ◌*◌, ◌<◌}
use native.Mathlib.Omega.{arith}
use native.Mathlib.Decide.{ℕ_discrete}
use Rattle.text.specs.Text.{Text, equal}
use Rattle.text.proofs.BoolLaws.{or_right, or_false}
use Rattle.pair_list.specs.Pair.{Pair}
use Rattle.pair_list.specs.Places.{key_at, pair_in, pairs_in}
use Rattle.map_spec.specs.Compose.{has_source}

source_snoc : (l : List Pair) (x : Pair) (s : Text) → has_source (l ++ x ∷ []) s ≡ (has_source l s || equal x.source s)
unfolding has_source
source_snoc [] x s = or_false (equal x.source s)
source_snoc (y ∷ l) x s = go (equal y.source s) (source_snoc l x s)
  where
    go : (b : Bool) → has_source (l ++ x ∷ []) s ≡ (has_source l s || equal x.source s)
        → (b || has_source (l ++ x ∷ []) s) ≡ (b || has_source l s || equal x.source s)
    go true ih = refl
    go false ih = ih

module _ (store : Text) (places : List ℕ) (s : Text) where
  source_next : (i : ℕ) → has_source (pairs_in store places (suc i)) s ≡ (has_source (pairs_in store places i) s || equal (key_at store places false i) s)
  unfolding pairs_in pair_in
  source_next i =
      let z : 2 * i + 0 ≡ 2 * i = omega arith in
      rw z (source_snoc (pairs_in store places i) (pair_in store places i) s)

  grown : (n i : ℕ) → i < n → equal (key_at store places false i) s ≡ true → has_source (pairs_in store places n) s ≡ true
  grown zero i h e = absurd (omega arith)
  grown (suc n) i h e =
      elim (ℕ_discrete i n) [
        | yes q ↦ source_next n ∙ or_right (has_source (pairs_in store places n) s) (equal (key_at store places false n) s) (rw q at e)
        | no d ↦ source_next n ∙ rw (grown n i (omega arith) e)
      ]

  unseen : (n : ℕ) → ((k : ℕ) → k < n → equal (key_at store places false k) s ≡ false) → has_source (pairs_in store places n) s ≡ false
  unfolding pairs_in has_source
  unseen zero f = refl
  unseen (suc n) f = source_next n ∙ rw (unseen n (λ k h. f k (omega arith)), f n (omega arith))

  -- What a search through the first n pairs answers.
  pub source_in : (n : ℕ) (r : Bool)
      → MatchBool r ((k : ℕ) × (k < n) × (equal (key_at store places false k) s ≡ true)) ((k : ℕ) → k < n → equal (key_at store places false k) s ≡ false)
      → r ≡ has_source (pairs_in store places n) s
  source_in n true w = sym (grown n w.0 w.1 w.2)
  source_in n false w = sym (unseen n w)
