-- Lemmas about the branches of the functions that build the list.
use Rattle.std.specs.Bool.{MatchBool}
use mathlib.Core.Path.{◌≡◌, refl, sym, ap, ◌∙◌}
use mathlib.Core.Bool.{Bool, true, false, ◌||◌}
use mathlib.Core.List.{List, [], ◌∷◌, ◌++◌}
use Prim.Native.Nat.{ℕ, zero, suc, ◌+◌, ◌≤◌, ◌<◌}
use native.Mathlib.Omega.{arith}
use native.Mathlib.Decide.{ℕ_discrete}
use lib.ListN.{length, take}
use Rattle.text.specs.Text.{Text}
use Rattle.text.proofs.BoolLaws.{or_right, or_false}
use Rattle.path_prefix.specs.Prefix.{has_prefix}
use Rattle.path_join.specs.Join.{replace_prefix}
use Rattle.pair_list.specs.Pair.{Pair, pair}
use Rattle.pair_list.specs.Places.{key_at, pair_in, pairs_in}
use Rattle.pair_list_write.specs.Packed.{AppendedPair}
use Rattle.pair_list_write.proofs.WriteBranches.{source_key, target_key}
use Rattle.map_spec.specs.Derive.{rebased_pair, any_target_below}
use Rattle.pair_buffer.specs.Ends.{replaced_or_same}

-- `rebase_pair`: the target made is a part of the buffer.
module _ (q : Text) (k : ℕ) (made : Text) (e : k ≡ length q) (f : take k made ≡ q) (l : length q ≤ 511) (s : Text) (h : length s ≤ 255) (at : ℕ) where
  pub part_room : (room : ℕ) → at + 766 ≤ room → at + (length s + length (take k made)) ≤ room
  part_room room g = omega (arith, ap length f)

  pub part_done : (n r : ℕ) (out out' : Text) (slots slots' : List ℕ)
      → AppendedPair (pair s (take k made)) n at out slots r out' slots' → AppendedPair (pair s q) n at out slots r out' slots' × (r ≤ at + 766)
  part_done n r out out' slots slots' w = (rw f at w, omega (arith, w.end, ap length f))

-- `any_target`
target_snoc : (from : Text) (l : List Pair) (x : Pair) → any_target_below from (l ++ x ∷ []) ≡ (any_target_below from l || has_prefix x.target from)
unfolding any_target_below
target_snoc from [] x = or_false (has_prefix x.target from)
target_snoc from (y ∷ l) x = go (has_prefix y.target from) (target_snoc from l x)
  where
    go : (b : Bool) → any_target_below from (l ++ x ∷ []) ≡ (any_target_below from l || has_prefix x.target from)
        → (b || any_target_below from (l ++ x ∷ [])) ≡ (b || any_target_below from l || has_prefix x.target from)
    go true ih = refl
    go false ih = ih

module _ (store : Text) (places : List ℕ) (from : Text) where
  target_next : (i : ℕ) → any_target_below from (pairs_in store places (suc i)) ≡ (any_target_below from (pairs_in store places i) || has_prefix (key_at store places true i) from)
  unfolding pairs_in pair_in
  target_next i = target_snoc from (pairs_in store places i) (pair_in store places i)

  grown : (n i : ℕ) → i < n → has_prefix (key_at store places true i) from ≡ true → any_target_below from (pairs_in store places n) ≡ true
  grown zero i h e = absurd (omega arith)
  grown (suc n) i h e =
      elim (ℕ_discrete i n) [
        | yes q ↦ target_next n ∙ or_right (any_target_below from (pairs_in store places n)) (has_prefix (key_at store places true n) from) (rw q at e)
        | no d ↦ target_next n ∙ rw (grown n i (omega arith) e)
      ]

  unseen : (n : ℕ) → ((k : ℕ) → k < n → has_prefix (key_at store places true k) from ≡ false) → any_target_below from (pairs_in store places n) ≡ false
  unfolding pairs_in any_target_below
  unseen zero f = refl
  unseen (suc n) f = target_next n ∙ rw (unseen n (λ k h. f k (omega arith)), f n (omega arith))

  pub target_in : (n : ℕ) (r : Bool)
      → MatchBool r ((k : ℕ) × (k < n) × (has_prefix (key_at store places true k) from ≡ true)) ((k : ℕ) → k < n → has_prefix (key_at store places true k) from ≡ false)
      → r ≡ any_target_below from (pairs_in store places n)
  target_in n true w = sym (grown n w.0 w.1 w.2)
  target_in n false w = sym (unseen n w)

-- `rebase_all`
pub rebased_pair_lem : (store : Text) (places : List ℕ) (i : ℕ) (from to s t : Text) → s ≡ key_at store places false i → t ≡ key_at store places true i
    → rebased_pair from to (pair_in store places i) ≡ pair s (replaced_or_same t from to)
unfolding replace_prefix
rebased_pair_lem store places i from to s t e f = rw (e, f, ← (source_key store places i), ← (target_key store places i)) refl
