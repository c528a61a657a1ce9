-- Lemmas about storing a pair.
use mathlib.Core.Path.{◌≡◌}
use mathlib.Core.List.{List, [], ◌∷◌}
use Prim.Native.Nat.{ℕ, ◌+◌, ◌≤◌}
use native.Mathlib.Omega.{arith}
use lib.ListN.{length}
use Rattle.text.specs.Text.{Text}
use Rattle.pair_list.specs.Pair.{pair}
use Rattle.pair_list.specs.Places.{pairs_in}
use Rattle.pair_list_write.proofs.PushBranches.{PushedPair, pair_there}
use Rattle.pair_list_write.proofs.PackedLaws.{holds_none, holds_list, holds_more}

-- `store_pair`: the pair is pushed to the empty list, and read back.
pub pair_stored : (s t store : Text) (places : List ℕ) → length s + length t ≤ length store → 4 ≤ length places
    → (r : ℕ) (store' : Text) (places' : List ℕ) → PushedPair s t 0 0 store places r store' places' → pairs_in store' places' 1 ≡ pair s t ∷ []
pair_stored s t store places h k r store' places' w =
    holds_list (pair s t ∷ []) 1 r store' places'
    (holds_more [] 0 0 store places (holds_none store places) (pair s t) r store' places'
    (pair_there s t 0 0 store places (omega arith) (omega arith) r store' places' w))
