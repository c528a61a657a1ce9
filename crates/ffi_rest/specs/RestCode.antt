-- Meaning: Replies that tell where the rest of a path begins, as one plain number for callers in Rust and C: the low byte is the refusal's number (0
-- if there is none), the remainder 256 times the value. The rest is passed as its start and its length within the path given; a refusal has none.
use Rattle.std.specs.Option.{unwrap_or}
use Rattle.std.specs.Prelude.{◌≡◌, ℕ, ◌+◌, ◌*◌, ◌/◌, ◌%◌, ◌^◌, ◌<◌, length, Result, Ok, Err, Option, Some, None}
use Rattle.text.specs.Text.{Text}
use Rattle.refusal.specs.Refusal.{refusal_number}
use Rattle.refusal.specs.Outcome.{Outcome, outcome_reply, outcome_buffer}
use Rattle.path_rest.specs.Rest.{rest_text}
use Rattle.path_rest.specs.Carried.{with_rest}
use Rattle.refusal.specs.declared.Refusal.{Refusal}

-- The code of the prefix test: 0 for "no", 256 plus 65,536 times n for "yes, from byte n". An index in a path is far below 2^40, so the remainder
-- does not change it; it rules out overflow.
unfoldable pub rest_code : Option ℕ → ℕ
rest_code (Some n) = 65536 * (n % 2 ^ 40) + 256
rest_code None = 0

-- The code of the reply of the prefix test.
unfoldable pub rest_test_code : Result (Option ℕ) Refusal → ℕ
unfolding rest_code
rest_test_code (Ok rest) = rest_code rest
rest_test_code (Err x) = refusal_number x

-- The start of the rest. Without a rest it is 0, as the length then is.
unfoldable pub rest_first : Option ℕ → ℕ
rest_first rest = unwrap_or rest 0

-- The length of a path that was written and the start and the length of a rest, each in a byte of its own. None of them exceeds 255, so the
-- remainders do not change them; they rule out overflow.
unfoldable pub carried_value : ℕ → ℕ → ℕ → ℕ
carried_value len start rest = 256 * (len % 256) + 65536 * (start % 256) + 16777216 * (rest % 256)

-- The code of a reply with the rest of the path p.
unfoldable pub carried_code : Text → Result (ℕ × Option ℕ) Refusal → ℕ
unfolding carried_value rest_first rest_text
carried_code p (Ok (n, rest)) = carried_value n (rest_first rest) (length (rest_text p rest))
carried_code p (Err x) = refusal_number x

-- An entry returned what the outcome and the rest of the path p say, with its reply as one number.
abbrev pub ReturnsCarriedCode : Text → Outcome → Option ℕ → ℕ → Text → Text → Type 0
ReturnsCarriedCode p o rest r before after = (r ≡ carried_code p (with_rest (outcome_reply o) rest)) × (after ≡ outcome_buffer o before)

-- Theorem (proofs/RestCodeLaws.antt): the three numbers are read back from the code.
abbrev pub CodeReadsBack : Type 0
CodeReadsBack =
    (len start rest : ℕ) → len < 256 → start < 256 → rest < 256
    → (carried_value len start rest % 256 ≡ 0) × (carried_value len start rest / 256 % 256 ≡ len)
    × (carried_value len start rest / 65536 % 256 ≡ start) × (carried_value len start rest / 16777216 ≡ rest)
