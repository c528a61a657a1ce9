-- Meaning: Validation of the lists and texts of a call (questions 1 to 4). Requirements: "The first 'no' gives its number."
use Rattle.std.specs.Prelude.{◌≡◌, ℕ, ◌*◌, ◌/◌, ◌≤◌, Bool, true, cond, ◌&&◌, List, [], ◌∷◌, leb, length, Result, Ok, Err, ⊤}
use Rattle.text.specs.Text.{Text}
use Rattle.path_grammar.specs.Legal.{legal, at_most255, is_end}
use Rattle.pair_list.specs.Pair.{Pair, all_short, all_ends}
use Rattle.pair_list.specs.Places.{pairs_in, places_short, places_all}
use Rattle.refusal.specs.declared.Refusal.TheVariants.{TooLong, Illegal, NotAnEnd, TooMany}
use Rattle.refusal.specs.Refusal.{refusal_rank}
use Rattle.refusal.specs.declared.Refusal.{Refusal}

-- A list of pairs as a caller lends it: a store of bytes, the places in it, and the number of pairs.
pub record LentList : Type 0 where
  pub store : Text
  pub places : List ℕ
  pub count : ℕ

-- The lent list with this store, these places and this count.
abbrev pub lent_list : Text → List ℕ → ℕ → LentList
lent_list store places count = record { store = store; places = places; count = count }

-- The pairs of a lent list.
abbrev pub pairs_of : LentList → List Pair
pairs_of l = pairs_in l.store l.places l.count

-- A list that passed questions 1, 3 and 4: the slice holds all its pairs, at most 64, and every end is a prim path, `/` or empty and has at
-- most 255 bytes.
pub record ValidList (l : LentList) : Type 0 where
  pub few : l.count ≤ 64
  pub held : l.count ≤ length l.places / 4
  pub ends : all_ends (pairs_of l) ≡ true
  pub shorts : all_short (pairs_of l) ≡ true

-- The number of places of the pairs that the slice holds; questions 1 to 3 apply to these.
unfoldable pub present_places : LentList → ℕ
present_places l = 2 * cond (leb l.count (length l.places / 4)) l.count (length l.places / 4)

-- Question 1 for a list.
unfoldable pub list_short : LentList → Bool
unfolding present_places places_short
list_short l = places_short l.store l.places (present_places l)

-- Every text of a list passes a test; questions 2 and 3 are such tests.
unfoldable pub list_all : (Text → Bool) → LentList → Bool
unfolding present_places places_all
list_all passes l = places_all passes l.store l.places (present_places l)

-- Question 4 for a list. Requirements: "at most 64 pairs"; "A count beyond its slice counts as over 64."
unfoldable pub count_within_limit : LentList → Bool
count_within_limit l = leb l.count 64 && leb l.count (length l.places / 4)

-- Every item of a list passes a test.
unfoldable pub every : {A : Type 0} → (A → Bool) → List A → Bool
every passes [] = true
every passes (x ∷ xs) = passes x && every passes xs

-- The result of validation, given the results of questions 1, 2, 3 and 4: the first failed question decides.
unfoldable pub first_failed : Bool → Bool → Bool → Bool → Result ⊤ Refusal
first_failed short isLegal ends counted =
    cond short (cond isLegal (cond ends (cond counted (Ok tt) (Err TooMany)) (Err NotAnEnd)) (Err Illegal)) (Err TooLong)

-- Validates the lists of a call, its texts, and those texts that count as ends. Requirements: "Is every path text at most 255 bytes ..?"
-- "Is every text legal?" "Is every end a prim path, `/` or empty?" "Has each list .. at most 64 pairs"
unfoldable pub validate_call : List LentList → List Text → List Text → Result ⊤ Refusal
unfolding first_failed every at_most255 legal is_end list_short list_all count_within_limit
validate_call lists texts ends =
    first_failed (every at_most255 texts && every list_short lists) (every legal texts && every (list_all legal) lists)
    (every is_end ends && every (list_all is_end) lists) (every count_within_limit lists)

-- Of two results, the refusal whose question is put first, the one with the lower rank. Requirements: "The first 'no' gives its number".
unfoldable pub first_refusal : Result ⊤ Refusal → Result ⊤ Refusal → Result ⊤ Refusal
first_refusal (Ok tt) b = b
first_refusal (Err x) (Ok tt) = Err x
first_refusal (Err x) (Err y) = cond (leb (refusal_rank x) (refusal_rank y)) (Err x) (Err y)
