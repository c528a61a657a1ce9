-- Meaning: A reply as one plain number, for callers in Rust and C: 256 times the value, with the refusal's number (0 if there is none) in the low
-- byte.
use Rattle.std.specs.Prelude.{◌≡◌, ℕ, ◌*◌, ◌%◌, ◌^◌, cond, Result, Ok, Err, ⊤, Bool}
use Rattle.text.specs.Text.{Text}
use Rattle.refusal.specs.Outcome.{Outcome, outcome_reply, outcome_buffer}
use Rattle.refusal.specs.Refusal.{refusal_number}
use Rattle.refusal.specs.declared.Refusal.{Refusal}
use Rattle.path_prefix.specs.declared.Elements.{Elements}

-- The code of a value. Every value is far below 2^56 (the length of a path or of a reply line, or a count), so the remainder does not
-- change it.
unfoldable pub value_code : ℕ → ℕ
value_code n = 256 * (n % 2 ^ 56)

-- The code of the result of validation.
unfoldable pub validation_code : Result ⊤ Refusal → ℕ
validation_code (Ok tt) = 0
validation_code (Err x) = refusal_number x

-- The code of the reply of a test.
unfoldable pub test_code : Result Bool Refusal → ℕ
test_code (Ok b) = cond b 256 0
test_code (Err x) = refusal_number x

-- The code of a number of elements.
unfoldable pub count_code : Result Elements Refusal → ℕ
count_code (Ok e) = value_code e.0
count_code (Err x) = refusal_number x

-- The code of the reply of a call that writes.
unfoldable pub reply_code : Result ℕ Refusal → ℕ
reply_code (Ok n) = value_code n
reply_code (Err x) = refusal_number x

-- The same of an entry, whose reply is one number.
abbrev pub ReturnsPathCode : Outcome → ℕ → Text → Text → Type 0
ReturnsPathCode o r before after = (r ≡ reply_code (outcome_reply o)) × (after ≡ outcome_buffer o before)
