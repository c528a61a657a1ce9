use Rattle.batch.proofs.BatchLaws.{by_map, by_route}
use Rattle.refusal.proofs.CallBranches.{answering}
use Rattle.batch.proofs.map_one.Goals as goal

pub returns-in-Map : goal.returns-in-Map
returns-in-Map c = answering _ _ (by_map _ _ _ _ _ _ _ _ _ c.in-Map.is) _ _ _ c.map_after_list.ensures

pub returns-in-Route : goal.returns-in-Route
returns-in-Route c = answering _ _ (by_route _ _ _ _ _ _ _ _ _ c.in-Route.is) _ _ _ c.route_after.ensures
