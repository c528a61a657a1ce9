-- Method: One step of a batch as the code performs it.
use Rattle.std.specs.Prelude.{ℕ, ◌*◌, List, ◌++◌, take, drop, Result, ⊤}
use Rattle.text.specs.Text.{Text}
use Rattle.refusal.specs.Outcome.{Outcome, outcome_buffer}
use Rattle.mapping.specs.Direction.{after_list_validated}
use Rattle.route_legs.specs.LentRoute.{lent_route}
use Rattle.route.specs.Fast.{after_route_validated}
use Rattle.batch.specs.declared.Mapper.{Mapper}
use Rattle.batch.specs.declared.Mapper.TheVariants.{Map, Route}
use Rattle.batch.specs.Batch.{call_at_spot}
use Rattle.refusal.specs.declared.Refusal.{Refusal}

-- The outcome for a path by a map or route that was validated before.
unfoldable pub map_path_by : Result ⊤ Refusal → Mapper → Text → List ℕ → List ℕ → ℕ → Text → Outcome
unfolding after_list_validated after_route_validated
map_path_by list (Map f direction) store places legs room p = after_list_validated list direction store places f p room
map_path_by list (Route n home) store places legs room p = after_route_validated list home (lent_route store places legs n) p room

-- The outcome for path i, with the given capacity.
unfoldable pub map_spot_by : Result ⊤ Refusal → Mapper → Text → List ℕ → List ℕ → Text → List ℕ → ℕ → ℕ → Outcome
unfolding call_at_spot map_path_by
map_spot_by list by store places legs texts spots room i = call_at_spot (map_path_by list by store places legs room) texts spots i

-- The buffer with block i replaced by the result of an outcome; the bytes before and after it are unchanged.
unfoldable pub written_block : ℕ → Outcome → Text → Text
unfolding outcome_buffer
written_block i o out = take (255 * i) out ++ (outcome_buffer o (take 255 (drop (255 * i) out)) ++ drop 255 (drop (255 * i) out))
