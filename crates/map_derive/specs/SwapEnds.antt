-- Method: The places of a list of pairs with source and target exchanged.
use Rattle.std.specs.Prelude.{cond, ◌&&◌, List, [], ◌∷◌, ◌++◌, ℕ, zero, suc, ◌+◌, ◌*◌, leb, length, get_or}
use Rattle.text.specs.Text.{written}

-- The four numbers of pair i, those of the target before those of the source.
abbrev pub swapped_entry : List ℕ → ℕ → List ℕ
swapped_entry places i = get_or places (4 * i + 2) 0 ∷ get_or places (4 * i + 3) 0 ∷ get_or places (4 * i) 0 ∷ get_or places (4 * i + 1) 0 ∷ []

-- The exchanged numbers of the first n pairs.
unfoldable pub swapped_entries : List ℕ → ℕ → List ℕ
swapped_entries places zero = []
swapped_entries places (suc n) = swapped_entries places n ++ swapped_entry places n

-- The numbers `other` with the exchanged numbers of the first n pairs over their beginning; unchanged if one of the two slices has fewer
-- than n pairs.
unfoldable pub swap_ends : List ℕ → ℕ → List ℕ → List ℕ
unfolding swapped_entries
swap_ends places n other = cond (leb (4 * n) (length places) && leb (4 * n) (length other)) (written (swapped_entries places n) other) other
