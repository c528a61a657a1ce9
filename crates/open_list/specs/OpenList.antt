-- Meaning: The invariant of the open list's buffers: its pairs are packed from the beginning. Adding a pair preserves it (proofs/OpenListLaws.antt),
-- so the pairs read by their places are the pairs of the list.
use Rattle.std.specs.Prelude.{◌≡◌, ℕ, List, [], ◌∷◌, ◌++◌, length, Ok}
use Rattle.text.specs.Text.{Text}
use Rattle.pair_list.specs.Pair.{Pair, pair}
use Rattle.pair_list.specs.Places.{pairs_in}
use Rattle.pair_list_write.specs.Packed.{HoldsList}
use Rattle.open_list.specs.declared.OpenList.{OpenList}
use Rattle.open_list.specs.Add.{validate_add, with_one_more, add_bytes, add_places}

-- The buffers hold the list l of size k.
abbrev pub HoldsOpenList : List Pair → OpenList → Text → List ℕ → Type 0
HoldsOpenList l k bytes places = HoldsList l k.pairs k.bytes bytes places

-- The lemmas about the open list's buffers.
pub record OpenListLaws : Type 0 where
  -- The pairs read from the buffers are those of the list.
  pub reads : (l : List Pair) (k : OpenList) (bytes : Text) (places : List ℕ) → HoldsOpenList l k bytes places → pairs_in bytes places k.pairs ≡ l
  -- An added pair is appended to the list.
  pub grows : (l : List Pair) (k : OpenList) (bytes : Text) (places : List ℕ) (s t : Text) → HoldsOpenList l k bytes places
      → validate_add k s t (length bytes) (length places) ≡ Ok tt
      → HoldsOpenList (l ++ pair s t ∷ []) (with_one_more k s t) (add_bytes (Ok tt) k s t bytes) (add_places (Ok tt) k s t places)
