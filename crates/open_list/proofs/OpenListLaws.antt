-- The proofs of the lemmas about the open list's buffers, which hold a packed list.
use Rattle.std.specs.Prelude.{Ok}
use mathlib.Core.Path.{◌≡◌, refl}
use mathlib.Core.List.{List, [], ◌∷◌, ◌++◌}
use Prim.Native.Nat.{ℕ, ◌+◌, ◌*◌}
use lib.ListN.{length}
use Rattle.text.specs.Text.{Text, written_at}
use Rattle.pair_list.specs.Pair.{Pair, pair}
use Rattle.pair_list.specs.Places.{pairs_in, pair_entry}
use Rattle.pair_list_write.proofs.PackedLaws.{holds_list, holds_more}
use Rattle.open_list.specs.declared.OpenList.{OpenList}
use Rattle.open_list.specs.Add.{validate_add, with_one_more, add_bytes, add_places}
use Rattle.open_list.specs.OpenList.{HoldsOpenList, OpenListLaws}

reads : (l : List Pair) (k : OpenList) (bytes : Text) (places : List ℕ) → HoldsOpenList l k bytes places → pairs_in bytes places k.pairs ≡ l
reads l k bytes places h = holds_list l k.pairs k.bytes bytes places h

grows : (l : List Pair) (k : OpenList) (bytes : Text) (places : List ℕ) (s t : Text) → HoldsOpenList l k bytes places
    → validate_add k s t (length bytes) (length places) ≡ Ok tt
    → HoldsOpenList (l ++ pair s t ∷ []) (with_one_more k s t) (add_bytes (Ok tt) k s t bytes) (add_places (Ok tt) k s t places)
unfolding add_bytes add_places
grows l k bytes places s t h a =
    holds_more l k.pairs k.bytes bytes places h (pair s t) (k.bytes + (length s + length t)) (written_at k.bytes (s ++ t) bytes)
    (written_at (4 * k.pairs) (pair_entry k.bytes s t) places) record { end = refl; text = refl; places = refl }

pub opened : OpenListLaws
opened = record { reads = reads; grows = grows }
