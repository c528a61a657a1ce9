use Rattle.route_maps.proofs.PrepareBranches.{relocates_prepared}
use Rattle.text.proofs.Clauses.{value_block_after}
use Rattle.route_maps.proofs.prepare_relocates.Goals as goal

pub returns : goal.returns
returns c = value_block_after (relocates_prepared _ _ _ _ _ (c.active_pairs-w.ensures.value, c.active_pairs-w.ensures.kept_after) _ _ _ _ (c.canonical_places.ensures.value, c.canonical_places.ensures.kept_after))
