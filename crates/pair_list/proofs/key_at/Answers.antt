use Rattle.pair_list.proofs.PlaceBranches.{key_missing}
use Rattle.pair_list.proofs.key_at.Goals as goal

pub returns-then-places-i : goal.returns-then-places-i
returns-then-places-i c = key_missing _ _ _ _ c.if-places-i.true
