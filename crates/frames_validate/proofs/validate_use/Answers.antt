-- Each arm validates what the action of its header uses.
use Rattle.frames_memory.specs.Memory.{frames_memory}
use Rattle.frames_validate.proofs.UseBranches.{use_pair, use_statuses, use_close, use_route, use_count}
use Rattle.frames_validate.proofs.validate_use.Goals as goal

pub returns-in-AddPair : goal.returns-in-AddPair
returns-in-AddPair c =
    let args = c.args in
    let m = frames_memory args.k args.bytes.now args.places.now args.store.now args.slots.now args.table.now in
    use_pair m args.frame.now _ _ _ c.in-AddPair.is

pub returns-in-Statuses : goal.returns-in-Statuses
returns-in-Statuses c =
    let args = c.args in
    let m = frames_memory args.k args.bytes.now args.places.now args.store.now args.slots.now args.table.now in
    use_statuses m args.frame.now _ c.in-Statuses.is

pub returns-in-Close : goal.returns-in-Close
returns-in-Close c =
    let args = c.args in
    let m = frames_memory args.k args.bytes.now args.places.now args.store.now args.slots.now args.table.now in
    use_close m args.frame.now _ _ c.in-Close.is _ c.validate_list.ensures

pub returns-in-Route : goal.returns-in-Route
returns-in-Route c =
    let args = c.args in
    let m = frames_memory args.k args.bytes.now args.places.now args.store.now args.slots.now args.table.now in
    use_route m args.frame.now _ _ _ c.in-Route.is _ c.validate_path.ensures

pub returns-in-Count : goal.returns-in-Count
returns-in-Count c =
    let args = c.args in
    let m = frames_memory args.k args.bytes.now args.places.now args.store.now args.slots.now args.table.now in
    use_count m args.frame.now _ c.in-Count.is
