-- Meaning: A list of pairs in lent memory: a store of bytes, and four numbers for each pair: the place of its source, then the place of its target.
-- The ends of its pairs are a list of texts (crates/text_list). Only this file defines how such a list is read; everything else is defined
-- on `List Pair`.
use Rattle.std.specs.Prelude.{◌≡◌, Bool, true, cond, ◌&&◌, ◌||◌, List, [], ◌∷◌, ◌++◌, ℕ, zero, suc, ◌+◌, ◌*◌, ◌/◌, leb, length}
use Rattle.text.specs.Text.{Text, written}
use Rattle.text_list.specs.Places.{in_store, length_at, text_at}
use Rattle.text_list.specs.Packed.{text_bytes, text_places}
use Rattle.pair_list.specs.Pair.{Pair, ends_of}

-- Pair i: its source is at place 2 i, its target at place 2 i + 1.
unfoldable pub pair_in : Text → List ℕ → ℕ → Pair
unfolding text_at
pair_in store places i = record { source = text_at store places (2 * i); target = text_at store places (2 * i + 1) }

-- The first n pairs.
unfoldable pub pairs_in : Text → List ℕ → ℕ → List Pair
unfolding pair_in
pairs_in store places zero = []
pairs_in store places (suc n) = pairs_in store places n ++ pair_in store places n ∷ []

-- The key of pair i: its source, or its target if the map is read backwards.
abbrev pub key_at : Text → List ℕ → Bool → ℕ → Text
key_at store places invert i = text_at store places (2 * i + cond invert 1 0)

-- Place j lies in the store and has at most 255 bytes; a place beyond the slice passes.
unfoldable pub is_short_at : Text → List ℕ → ℕ → Bool
unfolding in_store
is_short_at store places j = leb (length places / 2) j || in_store store places j && leb (length_at places j) 255

-- Question 1 for the first n places. Requirements: "Is every path text at most 255 bytes (a place that reaches outside its store counts as
-- longer)?"
unfoldable pub places_short : Text → List ℕ → ℕ → Bool
unfolding is_short_at
places_short store places zero = true
places_short store places (suc n) = places_short store places n && is_short_at store places n

-- The texts at the first n places pass a test; questions 2 and 3 are such tests.
unfoldable pub places_all : (Text → Bool) → Text → List ℕ → ℕ → Bool
unfolding text_at
places_all passes store places zero = true
places_all passes store places (suc n) = places_all passes store places n && passes (text_at store places n)

-- The bytes of a list as it is written: source then target, pair after pair, consecutively.
unfoldable pub list_text : List Pair → Text
unfolding text_bytes ends_of
list_text l = text_bytes (ends_of l)

-- The four numbers of a pair with the ends s and t, written from byte `at` of the store.
abbrev pub pair_entry : ℕ → Text → Text → List ℕ
pair_entry at s t = at ∷ length s ∷ (at + length s) ∷ length t ∷ []

-- The four numbers of each pair of a list written from byte `at` of the store.
unfoldable pub list_places : ℕ → List Pair → List ℕ
unfolding text_places ends_of
list_places at l = text_places at (ends_of l)

-- The number of bytes of a list. Requirements: "the sum of all end lengths .. for a list".
unfoldable pub end_bytes : List Pair → ℕ
end_bytes [] = 0
end_bytes (x ∷ xs) = length x.source + length x.target + end_bytes xs

-- Theorem (proofs/ListLaws.antt): reading a list that was written yields that list.
abbrev pub ListRoundTrip : Type 0
ListRoundTrip = (l : List Pair) (store : Text) (places : List ℕ) → pairs_in (written (list_text l) store) (written (list_places 0 l) places) (length l) ≡ l
