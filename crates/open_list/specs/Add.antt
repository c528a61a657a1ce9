-- Meaning: Adding a pair to the open list in lent memory: the reply, and every byte and place entry after the call, for any contents of the buffers.
use Rattle.std.specs.Prelude.{◌≡◌, ℕ, suc, ◌+◌, ◌*◌, ◌≤◌, ◌<◌, cond, ◌&&◌, List, [], ◌∷◌, ◌++◌, leb, length, Result, Ok, Err, ⊤}
use Rattle.text.specs.Text.{Text, written_at}
use Rattle.pair_list.specs.Places.{pair_entry}
use Rattle.refusal.specs.declared.Refusal.{Refusal}
use Rattle.refusal.specs.declared.Refusal.TheVariants.{TooMany, NoRoom}
use Rattle.refusal.specs.Refusal.{refused_or}
use Rattle.validate.specs.Validate.{validate_call}
use Rattle.open_list.specs.declared.OpenList.{OpenList}

-- Validation of an added pair: questions 1 to 3 for its ends, question 4 for the list with it ("A count beyond its slice counts as over
-- 64."), and question 5 for the byte buffer.
unfoldable pub validate_add : OpenList → Text → Text → ℕ → ℕ → Result ⊤ Refusal
unfolding validate_call
validate_add k s t room slots =
    refused_or (validate_call [] (s ∷ t ∷ []) (s ∷ t ∷ [])) Err
    (cond (leb (suc k.pairs) 64 && leb (4 * suc k.pairs) slots) (cond (leb (k.bytes + (length s + length t)) room) (Ok tt) (Err NoRoom))
    (Err TooMany))

-- The size of the list with the pair appended.
abbrev pub with_one_more : OpenList → Text → Text → OpenList
with_one_more k s t = record { pairs = k.pairs + 1; bytes = k.bytes + (length s + length t) }

-- The reply: the new size of the list, or the refusal.
unfoldable pub add_reply : Result ⊤ Refusal → OpenList → Text → Text → Result OpenList Refusal
add_reply a k s t = refused_or a Err (Ok (with_one_more k s t))

-- The byte buffer after the call: the pair's bytes appended to those of the list. Requirements: "A refused call writes nothing."
unfoldable pub add_bytes : Result ⊤ Refusal → OpenList → Text → Text → Text → Text
add_bytes a k s t bytes = refused_or a (λ (x : Refusal). bytes) (written_at k.bytes (s ++ t) bytes)

-- The place buffer after the call: the pair's four place entries appended; unchanged if the call was refused.
unfoldable pub add_places : Result ⊤ Refusal → OpenList → Text → Text → List ℕ → List ℕ
add_places a k s t places = refused_or a (λ (x : Refusal). places) (written_at (4 * k.pairs) (pair_entry k.bytes s t) places)

-- If validation passed, the pair fits in the buffers.
unfoldable pub AddFits : Result ⊤ Refusal → OpenList → ℕ → ℕ → ℕ → ℕ → Type 0
AddFits a k s t room slots = a ≡ Ok tt → (k.pairs < 64) × (4 * k.pairs + 4 ≤ slots) × (k.bytes + (s + t) ≤ room)
