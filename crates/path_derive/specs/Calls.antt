-- Meaning: The calls that derive a path: validation in the order of the questions, then the result. `room` is the capacity of the lent buffer.
use Rattle.std.specs.Prelude.{ℕ, cond, [], ◌∷◌, leb, length, drop, Result, Ok, Err}
use Rattle.text.specs.Text.{Text}
use Rattle.path_join.specs.Join.{replace_prefix}
use Rattle.path_join.specs.JoinParts.{JoinParts}
use Rattle.path_parts.specs.Parent.{parent, prim_path, split_property, ancestor_lens}
use Rattle.path_parts.specs.Strip.{strip}
use Rattle.refusal.specs.declared.Refusal.TheVariants.{NoRoom}
use Rattle.refusal.specs.Refusal.{validate_texts, refused_or}
use Rattle.refusal.specs.Outcome.{Outcome, after_checks, checked, checked_option}
use Rattle.refusal.specs.declared.Refusal.{Refusal}

-- The call `replace_prefix`: the path p with its prefix s replaced by t.
unfoldable pub replace_prefix_call : Text → Text → Text → ℕ → Outcome
unfolding after_checks validate_texts checked_option replace_prefix
replace_prefix_call p s t room = after_checks (validate_texts (p ∷ s ∷ t ∷ [])) room (checked_option (replace_prefix p s t))

-- What an accepted call of `replace_prefix` has written, n bytes of the lent buffer: the new prefix, the separator and the remainder without its own
-- leading slash, one after the other. This follows from `replace_prefix_call` by the theorem `JoinInParts`.
abbrev pub WrittenInParts : Text → Text → Text → Result ℕ Refusal → Text → Type 0
WrittenInParts p s t (Ok n) out = JoinParts s t (drop (length s) p) n out
WrittenInParts p s t (Err x) out = Unit {0}

-- The call `parent`.
unfoldable pub parent_call : Text → ℕ → Outcome
unfolding after_checks validate_texts checked_option parent
parent_call p room = after_checks (validate_texts (p ∷ [])) room (checked_option (parent p))

-- The call `prim_path`.
unfoldable pub prim_path_call : Text → ℕ → Outcome
unfolding after_checks validate_texts checked prim_path
prim_path_call p room = after_checks (validate_texts (p ∷ [])) room (checked (prim_path p))

-- The call `split_property`.
unfoldable pub split_property_call : Text → ℕ → Outcome
unfolding after_checks validate_texts checked_option split_property
split_property_call p room = after_checks (validate_texts (p ∷ [])) room (checked_option (split_property p))

-- The call `strip_variant_selections`.
unfoldable pub strip_call : Text → ℕ → Outcome
unfolding after_checks validate_texts checked strip
strip_call p room = after_checks (validate_texts (p ∷ [])) room (checked (strip p))

-- The reply of the call `ancestors`. Requirements, for question 5: "one number per path of `ancestors` (its length)".
unfoldable pub ancestors_reply : Text → ℕ → Result ℕ Refusal
unfolding validate_texts ancestor_lens
ancestors_reply p room =
    refused_or (validate_texts (p ∷ [])) Err (cond (leb (length (ancestor_lens p)) room) (Ok (length (ancestor_lens p))) (Err NoRoom))
