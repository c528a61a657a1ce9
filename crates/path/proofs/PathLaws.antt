-- Lemmas about the calls of this crate.
use Rattle.std.specs.Prelude.{Ok}
use mathlib.Core.Path.{◌≡◌}
use mathlib.Core.Bool.{true}
use Rattle.text.specs.Text.{Text}
use Rattle.path_grammar.specs.Legal.{at_most255, legal}
use Rattle.refusal.specs.Refusal.{all_texts_short, all_texts_legal, validate_texts}
use Rattle.path.specs.Calls.{path_new_call}

-- A legal text of at most 255 bytes passes validation.
pub new_passed : (p : Text) → at_most255 p ≡ true → legal p ≡ true → path_new_call p ≡ Ok tt
unfolding path_new_call validate_texts all_texts_short all_texts_legal
new_passed p h l = rw (h, l)
