-- Method: A packed list of pairs: its ends lie one after the other from the beginning of a buffer, and its places from the beginning of another.
use Rattle.std.specs.Prelude.{◌≡◌, Bool, cond, ◌&&◌, List, ◌++◌, ℕ, ◌+◌, ◌*◌, ◌≤◌, leb, length}
use Rattle.text.specs.Text.{Text, written, written_at}
use Rattle.pair_list.specs.Pair.{Pair}
use Rattle.pair_list.specs.Places.{pairs_in, list_text, list_places, pair_entry, end_bytes}

-- The list was written over the beginning of the buffers: n pairs and `at` bytes; the remainder is unchanged. Its ends are then packed texts:
-- `PackedTexts` of crates/text_list.
pub record PackedList (l : List Pair) (n at : ℕ) (bytes : Text) (slots : List ℕ) (bytes' : Text) (slots' : List ℕ) : Type 0 where
  pub number : n ≡ length l
  pub end : at ≡ end_bytes l
  pub text : bytes' ≡ written (list_text l) bytes
  pub places : slots' ≡ written (list_places 0 l) slots

-- The buffers begin with the list: writing it again would change nothing.
abbrev pub HoldsList : List Pair → ℕ → ℕ → Text → List ℕ → Type 0
HoldsList l n at bytes slots = PackedList l n at bytes slots bytes slots

-- The first n pairs of the buffers are packed.
abbrev pub IsPacked : ℕ → ℕ → Text → List ℕ → Type 0
IsPacked n at bytes slots = HoldsList (pairs_in bytes slots n) n at bytes slots

-- The pair x was appended after n pairs and `at` bytes; r is the offset after it.
pub record AppendedPair (x : Pair) (n at : ℕ) (bytes : Text) (slots : List ℕ) (r : ℕ) (bytes' : Text) (slots' : List ℕ) : Type 0 where
  pub end : r ≡ at + (length x.source + length x.target)
  pub text : bytes' ≡ written_at at (x.source ++ x.target) bytes
  pub places : slots' ≡ written_at (4 * n) (pair_entry at x.source x.target) slots

-- The buffers are large enough for n pairs of at most `most` bytes each.
pub record ScratchRoom (most n : ℕ) (bytes : Text) (slots : List ℕ) : Type 0 where
  pub room : most * n ≤ length bytes
  pub entries : 4 * n ≤ length slots

-- Whether one more pair, with ends s and t, fits after n pairs and `at` bytes: its bytes and its four place entries.
unfoldable pub pair_fits : Text → Text → ℕ → ℕ → Text → List ℕ → Bool
pair_fits s t n at bytes slots = leb (at + (length s + length t)) (length bytes) && leb (4 * n + 4) (length slots)

-- The offset after the appended pair; `at` if the pair does not fit.
unfoldable pub pair_end : Text → Text → ℕ → ℕ → Text → List ℕ → ℕ
unfolding pair_fits
pair_end s t n at bytes slots = cond (pair_fits s t n at bytes slots) (at + (length s + length t)) at

-- The byte buffer with the pair appended; unchanged if the pair does not fit.
unfoldable pub pair_bytes : Text → Text → ℕ → ℕ → Text → List ℕ → Text
unfolding pair_fits
pair_bytes s t n at bytes slots = cond (pair_fits s t n at bytes slots) (written_at at (s ++ t) bytes) bytes

-- The place buffer with the pair's four entries appended; unchanged if the pair does not fit.
unfoldable pub pair_slots : Text → Text → ℕ → ℕ → Text → List ℕ → List ℕ
unfolding pair_fits
pair_slots s t n at bytes slots = cond (pair_fits s t n at bytes slots) (written_at (4 * n) (pair_entry at s t) slots) slots
