-- Method: The steps of a search for the best index: what it keeps, and how it considers the next index.
use Rattle.std.specs.Option.{option_map}
use Rattle.std.specs.Prelude.{ℕ, Bool, true, cond, ◌&&◌, leb, Option, Some, None}
use Rattle.pair_list.specs.Best.{best_index}

-- The best so far, given whether there is one, its index and its weight.
abbrev pub best_kept : Bool → ℕ → ℕ → Option (ℕ × ℕ)
best_kept found at weight = cond found (Some (at, weight)) None

-- The index of the best so far, if there is one.
abbrev pub index_kept : Option (ℕ × ℕ) → Option ℕ
index_kept b = option_map (λ (x : ℕ × ℕ). x.0) b

-- The weight w is at least that of the best so far, if there is one.
abbrev pub at_least_best : Option (ℕ × ℕ) → ℕ → Bool
at_least_best None w = true
at_least_best (Some b) w = leb b.1 w

-- The best so far after index i, of weight w, was considered: that index if it passes the test and is at least as heavy.
unfoldable pub consider_index : Option (ℕ × ℕ) → Bool → ℕ → ℕ → Option (ℕ × ℕ)
consider_index b passes i w = cond (passes && at_least_best b w) (Some (i, w)) b

-- The best of the indices below n, with its weight.
unfoldable pub best_below : (ℕ → Bool) → (ℕ → ℕ) → ℕ → Option (ℕ × ℕ)
unfolding best_index
best_below passes weight n = option_map (λ (i : ℕ). (i, weight i)) (best_index passes weight n)
