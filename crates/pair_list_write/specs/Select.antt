-- Method: Pairs selected from a list in lent memory: their indices, and their numbers copied to another slice.
use Rattle.std.specs.Prelude.{◌≡◌, Bool, cond, ℕ, zero, suc, length}
use mathlib.Core.List.{List, [], ◌∷◌, ◌++◌, map, flat_map}
use Rattle.text.specs.Text.{Text, written}
use Rattle.pair_list.specs.Pair.{Pair}
use Rattle.pair_list.specs.Places.{pair_in}
use Rattle.pair_list_write.specs.Lists.{entry_at}

-- The indices, in ascending order, of those of the first n pairs that pass a test.
unfoldable pub indices_where : (ℕ → Bool) → ℕ → List ℕ
indices_where passes zero = []
indices_where passes (suc n) = cond (passes n) (indices_where passes n ++ n ∷ []) (indices_where passes n)

-- The numbers `slots` with the four numbers of each selected pair written consecutively over their beginning.
unfoldable pub written_entries : List ℕ → List ℕ → List ℕ → List ℕ
unfolding flat_map
written_entries places picks slots = written (flat_map (entry_at places) picks) slots

-- The numbers `slots` are the w selected pairs written over the old numbers.
abbrev pub HoldsEntries : List ℕ → List ℕ → List ℕ → List ℕ → ℕ → Type 0
HoldsEntries places picks old slots w = (w ≡ length picks) × (slots ≡ written_entries places picks old)

-- The selected pairs.
abbrev pub selected_pairs : Text → List ℕ → List ℕ → List Pair
selected_pairs store places picks = map (pair_in store places) picks
