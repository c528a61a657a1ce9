-- Lemmas about a list that is built in a scratch buffer pair by pair.
use mathlib.Core.Path.{◌≡◌, refl, ap, ◌∙◌}
use mathlib.Core.List.{List, [], ◌∷◌, ◌++◌, map as mapped}
use Prim.Native.Nat.{ℕ, ◌+◌, ◌≤◌}
use native.Mathlib.Omega.{arith}
use native.Mathlib.Numerals.{add-one}
use Rattle.text.specs.Text.{Text}
use Rattle.pair_list.specs.Pair.{Pair}
use Rattle.pair_list.specs.Places.{pair_in, pairs_in}
use Rattle.pair_list_write.specs.Packed.{HoldsList, AppendedPair}
use Rattle.pair_list_write.proofs.PackedLaws.{holds_none, holds_more}

pub map_snoc : (f : Pair → Pair) (l : List Pair) (x : Pair) → mapped f (l ++ x ∷ []) ≡ mapped f l ++ f x ∷ []
map_snoc f [] x = refl
map_snoc f (y ∷ l) x = ap (λ (k : List Pair). f y ∷ k) (map_snoc f l x)

pub build_begin : (f : Pair → Pair) (store : Text) (places : List ℕ) (bytes : Text) (slots : List ℕ) → HoldsList (mapped f (pairs_in store places 0)) 0 0 bytes slots
unfolding pairs_in
build_begin f store places bytes slots = holds_none bytes slots

pub build_next : (f : Pair → Pair) (store : Text) (places : List ℕ) (i at : ℕ) (bytes : Text) (slots : List ℕ) → HoldsList (mapped f (pairs_in store places i)) i at bytes slots
    → (x : Pair) → f (pair_in store places i) ≡ x → (end : ℕ) (bytes' : Text) (slots' : List ℕ) → AppendedPair x i at bytes slots end bytes' slots'
    → HoldsList (mapped f (pairs_in store places (i + 1))) (i + 1) end bytes' slots'
unfolding pairs_in
build_next f store places i at bytes slots c x q end bytes' slots' a =
    let z : mapped f (pairs_in store places i ++ pair_in store places i ∷ []) ≡ mapped f (pairs_in store places i) ++ x ∷ []
    = map_snoc f (pairs_in store places i) (pair_in store places i) ∙ ap (λ (y : Pair). mapped f (pairs_in store places i) ++ y ∷ []) q in
    rw (add-one i, z) (rw (add-one i) at (holds_more (mapped f (pairs_in store places i)) i at bytes slots c x end bytes' slots' a))

pub build_end : (f : Pair → Pair) (store : Text) (places : List ℕ) (n i at : ℕ) (bytes : Text) (slots : List ℕ) → n ≤ i → i ≤ n
    → HoldsList (mapped f (pairs_in store places i)) i at bytes slots → HoldsList (mapped f (pairs_in store places n)) n at bytes slots
build_end f store places n i at bytes slots l k c = let z : n ≡ i = omega arith in rw z c
