-- Meaning: The calls that map a path through a map in lent memory: validation in the order of the questions, then the result.
use Rattle.std.specs.Prelude.{ℕ, List, [], ◌∷◌, Option}
use Rattle.text.specs.Text.{Text}
use Rattle.refusal.specs.Outcome.{Outcome, after_checks, checked_option}
use Rattle.validate.specs.Validate.{validate_call}
use Rattle.map_function.specs.declared.MapFunction.{MapFunction}
use Rattle.map_function.specs.MapFunction.{list_of, map_of}
use Rattle.map_spec.specs.Map.{Map, map_source_to_target, map_target_to_source, translate_to_target}
use Rattle.map_rest.specs.MapRest.{source_rest, target_rest, translated_rest}
use Rattle.mapping.specs.declared.Direction.{Direction}
use Rattle.mapping.specs.declared.Direction.TheVariants.{Out, Home, Translated}

-- Questions 1 to 5 for a list of pairs and a path, then the outcome o of mapping, with questions 6 to 8.
abbrev pub mapping_call : Text → List ℕ → MapFunction → Text → ℕ → Outcome → Outcome
mapping_call store places f p room o = after_checks (validate_call (list_of store places f ∷ []) (p ∷ []) []) room o

-- The call `map_source_to_target`.
unfoldable pub map_source_to_target_call : Text → List ℕ → MapFunction → Text → ℕ → Outcome
unfolding validate_call after_checks checked_option map_source_to_target
map_source_to_target_call store places f p room = mapping_call store places f p room (checked_option (map_source_to_target (map_of store places f) p))

-- The call `map_target_to_source`.
unfoldable pub map_target_to_source_call : Text → List ℕ → MapFunction → Text → ℕ → Outcome
unfolding validate_call after_checks checked_option map_target_to_source
map_target_to_source_call store places f p room = mapping_call store places f p room (checked_option (map_target_to_source (map_of store places f) p))

-- The call `translate_to_target`.
unfoldable pub translate_to_target_call : Text → List ℕ → MapFunction → Text → ℕ → Outcome
unfolding validate_call after_checks checked_option translate_to_target
translate_to_target_call store places f p room = mapping_call store places f p room (checked_option (translate_to_target (map_of store places f) p))

-- The call that maps a path in this way.
unfoldable pub direction_call : Direction → Text → List ℕ → MapFunction → Text → ℕ → Outcome
unfolding map_source_to_target_call map_target_to_source_call translate_to_target_call
direction_call Out store places f p room = map_source_to_target_call store places f p room
direction_call Home store places f p room = map_target_to_source_call store places f p room
direction_call Translated store places f p room = translate_to_target_call store places f p room

-- The rest that this call tells beside its reply.
unfoldable pub direction_rest : Direction → Map → Text → Option ℕ
unfolding source_rest target_rest translated_rest
direction_rest Out m p = source_rest m p
direction_rest Home m p = target_rest m p
direction_rest Translated m p = translated_rest m p
