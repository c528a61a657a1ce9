-- Meaning: Texts in lent memory: a store of bytes, and two numbers for each text, its start and its length. A place is one such start and length.
-- Only this file defines how such a text is read.
use Rattle.std.specs.Prelude.{Bool, cond, List, [], ◌∷◌, ◌++◌, ℕ, zero, suc, ◌+◌, ◌*◌, leb, length, get_or, take, drop}
use Rattle.text.specs.Text.{Text}

-- The start of place j.
abbrev pub start_at : List ℕ → ℕ → ℕ
start_at places j = get_or places (2 * j) 0

-- The length of place j.
abbrev pub length_at : List ℕ → ℕ → ℕ
length_at places j = get_or places (2 * j + 1) 0

-- Place j lies in the store.
unfoldable pub in_store : Text → List ℕ → ℕ → Bool
in_store store places j = leb (start_at places j + length_at places j) (length store)

-- The text at place j; empty if the place reaches outside the store.
unfoldable pub text_at : Text → List ℕ → ℕ → Text
unfolding in_store
text_at store places j = cond (in_store store places j) (take (length_at places j) (drop (start_at places j) store)) []

-- The texts at the first n places.
unfoldable pub texts_in : Text → List ℕ → ℕ → List Text
unfolding text_at
texts_in store places zero = []
texts_in store places (suc n) = texts_in store places n ++ text_at store places n ∷ []
