-- Meaning: A packed list of texts: the texts lie one after the other from the beginning of a buffer, and their places from the beginning of another.
use Rattle.std.specs.Prelude.{◌≡◌, Bool, cond, ◌&&◌, List, [], ◌∷◌, ◌++◌, ℕ, ◌+◌, ◌*◌, leb, length}
use Rattle.text.specs.Text.{Text, written, written_at}
use Rattle.text_list.specs.Places.{texts_in}

-- The bytes of the texts, one after the other.
unfoldable pub text_bytes : List Text → Text
text_bytes [] = []
text_bytes (t ∷ l) = t ++ text_bytes l

-- The number of bytes of the texts.
unfoldable pub text_size : List Text → ℕ
text_size [] = 0
text_size (t ∷ l) = length t + text_size l

-- The start and the length of each text, written from byte `at`.
unfoldable pub text_places : ℕ → List Text → List ℕ
text_places at [] = []
text_places at (t ∷ l) = at ∷ length t ∷ text_places (at + length t) l

-- The texts were written over the beginning of the buffers: n texts and `at` bytes; the remainder is unchanged.
pub record PackedTexts (l : List Text) (n at : ℕ) (bytes : Text) (slots : List ℕ) (bytes' : Text) (slots' : List ℕ) : Type 0 where
  pub number : n ≡ length l
  pub end : at ≡ text_size l
  pub text : bytes' ≡ written (text_bytes l) bytes
  pub places : slots' ≡ written (text_places 0 l) slots

-- The buffers begin with these texts: writing them again would change nothing.
abbrev pub HoldsTexts : List Text → ℕ → ℕ → Text → List ℕ → Type 0
HoldsTexts l n at bytes slots = PackedTexts l n at bytes slots bytes slots

-- Whether one more text fits after n texts and `at` bytes: its bytes and its two numbers.
unfoldable pub text_fits : Text → ℕ → ℕ → Text → List ℕ → Bool
text_fits t n at bytes slots = leb (at + length t) (length bytes) && leb (2 * n + 2) (length slots)

-- The offset after the appended text; `at` if the text does not fit.
unfoldable pub text_end : Text → ℕ → ℕ → Text → List ℕ → ℕ
unfolding text_fits
text_end t n at bytes slots = cond (text_fits t n at bytes slots) (at + length t) at

-- The byte buffer with the text appended; unchanged if the text does not fit.
unfoldable pub bytes_with_text : Text → ℕ → ℕ → Text → List ℕ → Text
unfolding text_fits
bytes_with_text t n at bytes slots = cond (text_fits t n at bytes slots) (written_at at t bytes) bytes

-- The place buffer with the text's two numbers appended; unchanged if the text does not fit.
unfoldable pub places_with_text : Text → ℕ → ℕ → Text → List ℕ → List ℕ
unfolding text_fits text_places
places_with_text t n at bytes slots = cond (text_fits t n at bytes slots) (written_at (2 * n) (text_places at (t ∷ [])) slots) slots

-- The theorems about packed lists (proofs/PackedLaws.antt).
pub record PackedLaws : Type 0 where
  -- Texts that were written are read back.
  pub reads : (l : List Text) (n at : ℕ) (o : Text) (p : List ℕ) (bytes : Text) (slots : List ℕ) → PackedTexts l n at o p bytes slots → texts_in bytes slots n ≡ l
  -- Texts written after them, with their numbers, are appended to the list.
  pub appends : (l : List Text) (n at : ℕ) (o : Text) (p : List ℕ) (bytes : Text) (slots : List ℕ) → PackedTexts l n at o p bytes slots
      → (k : List Text) → PackedTexts (l ++ k) (n + length k) (at + text_size k) o p (written_at at (text_bytes k) bytes) (written_at (2 * n) (text_places at k) slots)
