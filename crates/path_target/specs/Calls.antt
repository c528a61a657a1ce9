-- Meaning: The calls that read and replace the target of a path: validation in the order of the questions, then the result. `room` is the
-- capacity of the lent buffer.
use Rattle.std.specs.Prelude.{ℕ, [], ◌∷◌}
use Rattle.text.specs.Text.{Text}
use Rattle.refusal.specs.Refusal.{validate_texts}
use Rattle.refusal.specs.Outcome.{Outcome, after_checks, checked_option}
use Rattle.path_target.specs.Target.{embedded_target, replace_embedded_target}

-- The call `embedded_target`: questions 1, 2, 5 and 6. Questions 7 and 8 are never answered with no, since the target of a legal path is a legal
-- path, and shorter. Requirements: "Port `embedded_target` and `replace_embedded_target`."
unfoldable pub embedded_target_call : Text → ℕ → Outcome
unfolding after_checks validate_texts checked_option embedded_target
embedded_target_call p room = after_checks (validate_texts (p ∷ [])) room (checked_option (embedded_target p))

-- The call `replace_embedded_target`: questions 1, 2, 5, 6, 7 and 8. Requirements: "Port `embedded_target` and `replace_embedded_target`."
unfoldable pub replace_embedded_target_call : Text → Text → ℕ → Outcome
unfolding after_checks validate_texts checked_option replace_embedded_target
replace_embedded_target_call p t room = after_checks (validate_texts (p ∷ t ∷ [])) room (checked_option (replace_embedded_target p t))
