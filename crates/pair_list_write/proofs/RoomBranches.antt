-- Lemmas for the branches of `remaining_room`.
use Rattle.std.specs.Prelude.{Option, Some, None}
use mathlib.Core.Path.{◌≡◌, refl, sym, ap, ◌∙◌}
use mathlib.Core.Bool.{Bool, true, false, cond}
use mathlib.Core.List.{List, [], ◌∷◌, ◌++◌}
use Prim.Native.Nat.{ℕ, zero, suc, ◌+◌, ◌*◌, ◌-◌, ◌≤◌, ◌<◌}
use native.Mathlib.Omega.{arith}
use native.Mathlib.Numerals.{add-one}
use native.Mathlib.Decide.{ℕ_discrete}
use lib.Dec.{leb}
use lib.ListN.{length}
use borrow.Author.Tests.{le-leb, lt-leb, leb-true, leb-false}
use Rattle.text.specs.Text.{Text}
use Rattle.pair_list.specs.Pair.{Pair}
use Rattle.pair_list.specs.Places.{key_at, pair_in, pairs_in, end_bytes}
use Rattle.pair_list_write.specs.Lists.{remaining_room}

pub end_snoc : (l : List Pair) (x : Pair) → end_bytes (l ++ x ∷ []) ≡ end_bytes l + (length x.source + length x.target)
unfolding end_bytes
end_snoc [] x = omega arith
end_snoc (y ∷ l) x = rw (end_snoc l x) (omega arith)

module _ (store : Text) (places : List ℕ) where
  pub end_next : (i : ℕ) → end_bytes (pairs_in store places (suc i)) ≡ end_bytes (pairs_in store places i) + (length (key_at store places false i) + length (key_at store places true i))
  unfolding pairs_in pair_in
  end_next i =
      let z : 2 * i + 0 ≡ 2 * i = omega arith in
      rw z (end_snoc (pairs_in store places i) (pair_in store places i))

  pub end_grows : (n i : ℕ) → i ≤ n → end_bytes (pairs_in store places i) ≤ end_bytes (pairs_in store places n)
  end_grows zero i h = let e : i ≡ 0 = omega arith in rw e (omega arith)
  end_grows (suc n) i h =
      elim (ℕ_discrete i (suc n)) [ yes e ↦ rw e (omega arith) | no d ↦ omega (arith, end_grows n i (omega arith), end_next n) ]

  module _ (n room i left : ℕ) (h : i < n) (e : left + end_bytes (pairs_in store places i) ≡ room) (s : Text) (k : s ≡ key_at store places false i) where
    more : end_bytes (pairs_in store places i) + (length (key_at store places false i) + length (key_at store places true i)) ≤ end_bytes (pairs_in store places n)
    more = omega (arith, end_next i, end_grows n (suc i) (omega arith))

    pub room_source : left < length s → None ≡ remaining_room (pairs_in store places n) room
    unfolding remaining_room
    room_source l = rw (lt-leb (end_bytes (pairs_in store places n)) room (omega (arith, more, ap length k))) refl

    module _ (t : Text) (j : t ≡ key_at store places true i) where
      pub room_target : length s ≤ left → left - length s < length t → None ≡ remaining_room (pairs_in store places n) room
      unfolding remaining_room
      room_target g l = rw (lt-leb (end_bytes (pairs_in store places n)) room (omega (arith, more, ap length k, ap length j))) refl

      pub room_on : length s ≤ left → length t ≤ left - length s → left - length s - length t + end_bytes (pairs_in store places (i + 1)) ≡ room
      room_on g l = rw (add-one i) (omega (arith, end_next i, ap length k, ap length j))

  pub room_begin : (room : ℕ) → room + end_bytes (pairs_in store places 0) ≡ room
  unfolding pairs_in end_bytes
  room_begin room = omega arith

  pub room_end : (n room i left : ℕ) → n ≤ i → i ≤ n → left + end_bytes (pairs_in store places i) ≡ room → Some left ≡ remaining_room (pairs_in store places n) room
  unfolding remaining_room
  room_end n room i left l m e =
      let z : n ≡ i = omega arith in
      rw (z, le-leb (end_bytes (pairs_in store places i)) room (omega arith)) (ap Some (omega arith))

-- What a result of `remaining_room` implies.
module _ (l : List Pair) (room : ℕ) (r : Option ℕ) (e : r ≡ remaining_room l room) where
  pub left_fits : (left : ℕ) → r ≡ Some left → end_bytes l + left ≡ room
  unfolding remaining_room
  left_fits left h = go (leb (end_bytes l) room) refl (sym h ∙ e)
    where
      go : (b : Bool) → leb (end_bytes l) room ≡ b → Some left ≡ cond b (Some (room - end_bytes l)) None → end_bytes l + left ≡ room
      go true z w = let x : left ≡ room - end_bytes l = cc in omega (arith, leb-true (end_bytes l) room z)
      go false z w = absurd (let x : ◌≡◌ {A = ℕ} 0 1 = cc in omega arith)

  pub over_full : r ≡ None → room < end_bytes l
  unfolding remaining_room
  over_full h = go (leb (end_bytes l) room) refl (sym h ∙ e)
    where
      go : (b : Bool) → leb (end_bytes l) room ≡ b → None ≡ cond b (Some (room - end_bytes l)) None → room < end_bytes l
      go true z w = absurd (let x : ◌≡◌ {A = ℕ} 0 1 = cc in omega arith)
      go false z w = leb-false (end_bytes l) room z
