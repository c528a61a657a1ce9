-- Method: The calls that map a path, as the code computes them, and on a list that was validated before.
use Rattle.std.specs.Prelude.{ℕ, true, false, List, Result, ⊤}
use Rattle.text.specs.Text.{Text}
use Rattle.path_parts.specs.Strip.{strip}
use Rattle.refusal.specs.Outcome.{Outcome, after_checks}
use Rattle.path.specs.Calls.{path_new_call}
use Rattle.validate.specs.Validate.{first_refusal}
use Rattle.map_spec.specs.Map.{Map}
use Rattle.map_apply.specs.Fast.{map_fast, translate_fast}
use Rattle.map_function.specs.declared.MapFunction.{MapFunction}
use Rattle.map_function.specs.MapFunction.{map_of}
use Rattle.mapping.specs.declared.Direction.{Direction}
use Rattle.mapping.specs.declared.Direction.TheVariants.{Out, Home, Translated}
use Rattle.refusal.specs.declared.Refusal.{Refusal}

-- The outcome of the code for a path once validation has passed.
unfoldable pub map_fast_in : Direction → Map → Text → Outcome
unfolding map_fast translate_fast strip
map_fast_in Out m p = map_fast false m p
map_fast_in Home m p = map_fast true m p
map_fast_in Translated m p = translate_fast m (strip p)

-- The call with `list`, the result of validating the list, given: the path is validated, and the refusal whose question is put first
-- decides. If `list` is the result for this list, this equals `direction_call` (proofs/DirectionLaws.antt).
unfoldable pub after_list_validated : Result ⊤ Refusal → Direction → Text → List ℕ → MapFunction → Text → ℕ → Outcome
unfolding first_refusal path_new_call after_checks map_fast_in
after_list_validated list direction store places f p room = after_checks (first_refusal list (path_new_call p)) room (map_fast_in direction (map_of store places f) p)
