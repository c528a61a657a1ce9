-- Each call as the code validates it: one text, or three, of which one may be empty.
use mathlib.Core.Path.{◌≡◌, refl}
use mathlib.Core.List.{[], ◌∷◌}
use Prim.Native.Nat.{ℕ}
use Rattle.text.specs.Text.{Text}
use Rattle.path_join.specs.Join.{replace_prefix}
use Rattle.path_parts.specs.Parent.{parent, prim_path, split_property}
use Rattle.path_parts.specs.Strip.{strip}
use Rattle.refusal.specs.Refusal.{validate_texts}
use Rattle.refusal.specs.Outcome.{after_checks, checked, checked_option}
use Rattle.path_derive.specs.Calls.{replace_prefix_call, parent_call, prim_path_call, split_property_call, strip_call}

module _ (p : Text) (room : ℕ) where
  pub replace_unfolded : (s t : Text) → replace_prefix_call p s t room ≡ after_checks (validate_texts (p ∷ s ∷ t ∷ [])) room (checked_option (replace_prefix p s t))
  unfolding replace_prefix_call
  replace_unfolded s t = refl

  pub parent_unfolded : parent_call p room ≡ after_checks (validate_texts (p ∷ [])) room (checked_option (parent p))
  unfolding parent_call
  parent_unfolded = refl

  pub prim_unfolded : prim_path_call p room ≡ after_checks (validate_texts (p ∷ [])) room (checked (prim_path p))
  unfolding prim_path_call
  prim_unfolded = refl

  pub split_unfolded : split_property_call p room ≡ after_checks (validate_texts (p ∷ [])) room (checked_option (split_property p))
  unfolding split_property_call
  split_unfolded = refl

  pub strip_unfolded : strip_call p room ≡ after_checks (validate_texts (p ∷ [])) room (checked (strip p))
  unfolding strip_call
  strip_unfolded = refl
