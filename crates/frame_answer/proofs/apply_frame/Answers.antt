-- Each arm performs the step of the action that the header denotes.
use Rattle.frame_answer.proofs.ApplyBranches.{reach_known, as_pair, as_statuses, as_close, as_route, as_count}
use Rattle.frame_answer.proofs.apply_frame.Goals as goal

pub apply_pair_in-requires : goal.apply_pair_in-requires
apply_pair_in-requires c = reach_known _ _ _ c.in-AddPair.is c.requires.1

pub apply_route-w-requires : goal.apply_route-w-requires
apply_route-w-requires c = (c.requires.0, reach_known _ _ _ c.in-Route.is c.requires.1)

pub returns-in-AddPair : goal.returns-in-AddPair
returns-in-AddPair c = as_pair _ _ _ _ _ _ _ _ _ c.args.payload.now _ _ c.in-AddPair.is _ _ _ _ c.apply_pair_in.ensures

pub returns-in-Statuses : goal.returns-in-Statuses
returns-in-Statuses c = as_statuses _ _ _ _ _ _ _ _ _ _ c.in-Statuses.is _ c.apply_statuses.ensures

pub returns-in-Close : goal.returns-in-Close
returns-in-Close c = as_close _ _ _ _ _ _ _ _ _ c.args.payload.now _ c.in-Close.is _ _ c.apply_close.ensures

pub returns-in-Route : goal.returns-in-Route
returns-in-Route c = as_route _ _ _ _ _ _ _ _ _ _ _ _ c.in-Route.is _ c.apply_route-w.ensures _ c.count_out.ensures

pub returns-in-Count : goal.returns-in-Count
returns-in-Count c = as_count _ _ _ _ _ _ _ _ _ _ c.in-Count.is c.write_count.ensures
