-- Meaning: Refusals, their numbers and their order, and the validation of texts (questions 1 and 2). Requirements: "The first 'no' gives its number".
use Rattle.std.specs.Prelude.{ℕ, Bool, true, cond, ◌&&◌, List, [], ◌∷◌, Result, Ok, Err, ⊤}
use Rattle.text.specs.Text.{Text}
use Rattle.path_grammar.specs.Legal.{legal, at_most255}
use Rattle.refusal.specs.declared.Refusal.{Refusal}
use Rattle.refusal.specs.declared.Refusal.TheVariants.{TooLong, Illegal, NotAnEnd, TooMany, NoRoom, NoPath, MadeTooLong, MadeIllegal}

-- The number of a refusal: that of the question that failed.
abbrev pub refusal_number : Refusal → ℕ
refusal_number TooLong = 1
refusal_number Illegal = 2
refusal_number NotAnEnd = 3
refusal_number TooMany = 4
refusal_number NoRoom = 5
refusal_number NoPath = 6
refusal_number MadeTooLong = 7
refusal_number MadeIllegal = 8

-- The rank of a refusal: the position of its question in the order in which the questions are put. Of two failed questions the one with the
-- lower rank decides. The order need not be that of the numbers, so it has this table of its own; ranks are ten apart, so that a question
-- that is added between two others leaves theirs unchanged.
abbrev pub refusal_rank : Refusal → ℕ
refusal_rank TooLong = 10
refusal_rank Illegal = 20
refusal_rank NotAnEnd = 30
refusal_rank TooMany = 40
refusal_rank NoRoom = 50
refusal_rank NoPath = 60
refusal_rank MadeTooLong = 70
refusal_rank MadeIllegal = 80

-- Question 1. Requirements: "Is every path text at most 255 bytes?"
unfoldable pub all_texts_short : List Text → Bool
unfolding at_most255
all_texts_short [] = true
all_texts_short (t ∷ r) = at_most255 t && all_texts_short r

-- Question 2. Requirements: "Is every text legal?"
unfoldable pub all_texts_legal : List Text → Bool
unfolding legal
all_texts_legal [] = true
all_texts_legal (t ∷ r) = legal t && all_texts_legal r

-- Validates the texts of a call: question 1 for all of them, then question 2 for all of them.
unfoldable pub validate_texts : List Text → Result ⊤ Refusal
unfolding all_texts_short all_texts_legal
validate_texts ts = cond (all_texts_short ts) (cond (all_texts_legal ts) (Ok tt) (Err Illegal)) (Err TooLong)

-- The refusal if there is one, otherwise the answer.
abbrev pub refused_or : {A : Type 0} → Result ⊤ Refusal → (Refusal → A) → A → A
refused_or (Ok tt) refuse answer = answer
refused_or (Err x) refuse answer = refuse x
