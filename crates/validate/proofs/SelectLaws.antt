-- Lemmas about the pairs that are copied from a lent list.
use mathlib.Core.Path.{◌≡◌, refl}
use mathlib.Core.Bool.{Bool, true, false, not}
use mathlib.Core.List.{List, []}
use Prim.Native.Nat.{ℕ, ◌/◌, ◌*◌, ◌≤◌}
use native.Mathlib.Omega.{arith}
use lib.Dec.{leb}
use lib.ListN.{length}
use borrow.Author.Tests.{le-leb, leb-true}
use Rattle.text.specs.Text.{Text}
use Rattle.text.proofs.BoolLaws.{and_l, and_r, known_true}
use Rattle.pair_list.specs.Pair.{Pair}
use Rattle.validate.specs.Validate.{LentList, lent_list, count_within_limit, ValidList}
use Rattle.validate.specs.Select.{can_select, pairs_if_selectable}

-- If `can_select` returns true, the slice holds the pairs, there are at most 64, and the buffer has the capacity.
module _ (places : List ℕ) (n room : ℕ) (b : Bool) (e : b ≡ can_select (lent_list [] places n) room) (h : not b ≡ false) where
  pub select_all : (store : Text) (l : List Pair) → pairs_if_selectable (lent_list store places n) room l ≡ l
  unfolding pairs_if_selectable can_select count_within_limit
  select_all store l = rw (known_true e h) refl

  counted : count_within_limit (lent_list [] places n) ≡ true
  unfolding can_select
  counted = and_l (count_within_limit (lent_list [] places n)) (leb 256 room) (known_true e h)

  pub select_few : n ≤ 64
  unfolding count_within_limit
  select_few = leb-true n 64 (and_l (leb n 64) (leb n (length places / 4)) counted)

  pub select_present : 4 * n ≤ length places
  unfolding count_within_limit
  select_present = let z : n ≤ length places / 4 = leb-true n (length places / 4) (and_r (leb n 64) (leb n (length places / 4)) counted) in omega arith

  pub select_room : 256 ≤ room
  unfolding can_select
  select_room = leb-true 256 room (and_r (count_within_limit (lent_list [] places n)) (leb 256 room) (known_true e h))

-- The pairs of a list that passed questions 1 to 4 can be copied.
pub sound_select : (l : LentList) (room : ℕ) (x : List Pair) → ValidList l → 256 ≤ room → pairs_if_selectable l room x ≡ x
unfolding pairs_if_selectable can_select count_within_limit
sound_select l room x s h = rw (le-leb l.count 64 s.few, le-leb l.count (length l.places / 4) s.held, le-leb 256 room h) refl
