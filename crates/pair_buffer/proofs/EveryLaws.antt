-- Lemmas about a test of every end, pair by pair.
use mathlib.Core.Path.{◌≡◌, refl}
use mathlib.Core.Bool.{Bool, true, false, ◌&&◌}
use mathlib.Core.List.{List, [], ◌∷◌, ◌++◌}
use Prim.Native.Nat.{ℕ, zero, suc, ◌+◌, ◌*◌}
use native.Mathlib.Omega.{arith}
use Rattle.text.specs.Text.{Text}
use Rattle.text.proofs.BoolLaws.{and_yes}
use Rattle.pair_list.specs.Pair.{Pair, every_end}
use Rattle.pair_list.specs.Places.{pair_in, pairs_in, places_all}

module _ (passes : Text → Bool) where
  pub every_snoc : (l : List Pair) (x : Pair) → every_end passes (l ++ x ∷ []) ≡ (every_end passes l && passes x.source && passes x.target)
  unfolding every_end
  every_snoc [] x = and_yes (passes x.source && passes x.target)
  every_snoc (y ∷ l) x = go (passes y.source && passes y.target) (every_snoc l x)
    where
      go : (b : Bool) → every_end passes (l ++ x ∷ []) ≡ (every_end passes l && passes x.source && passes x.target)
          → (b && every_end passes (l ++ x ∷ [])) ≡ ((b && every_end passes l) && passes x.source && passes x.target)
      go true ih = ih
      go false ih = refl

  -- The ends of the first n pairs are the texts at the first 2 n places.
  pub every_places : (store : Text) (places : List ℕ) (n : ℕ) → places_all passes store places (2 * n) ≡ every_end passes (pairs_in store places n)
  unfolding pairs_in pair_in places_all every_end
  every_places store places zero = refl
  every_places store places (suc n) =
      let e : 2 * suc n ≡ suc (suc (2 * n)) = omega arith in
      let f : 2 * n + 1 ≡ suc (2 * n) = omega arith in
      rw (e, every_places store places n, every_snoc (pairs_in store places n) (pair_in store places n), f) refl
