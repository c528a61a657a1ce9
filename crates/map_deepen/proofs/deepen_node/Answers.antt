use Rattle.std.proofs.Common.{rules, Err, ◌≡◌}
use Rattle.map_function.proofs.NewBranches.{refusing_map, gives_map}
use Rattle.map_deepen.proofs.DeepenBranches.{deepen_refused, sound, deepen_node_short, deepen_there, deepen_none, deepen_inside, deepen_made}
use Rattle.map_deepen.proofs.deepen_node.Goals as goal

pub returns-in_err-validate_call : goal.returns-in_err-validate_call
returns-in_err-validate_call c = let r : c.from_residual.result ≡ Err c.in_err-validate_call.field-0.0 = search rules in rw r (let args = c.args in refusing_map _ _ (deepen_refused args.store.now args.places.now args.map args.path.now args.node.now args.out.now args.slots.now c.requires _ c.validate_call.ensures _ c.in_err-validate_call.was) _ _)

pub returns-then-has_source : goal.returns-then-has_source
returns-then-has_source c =
    let args = c.args in
    gives_map _ _
    (deepen_there args.store.now args.places.now args.map args.path.now args.node.now args.out.now args.slots.now
    c.requires _ c.validate_call.ensures c.in_ok-validate_call.was _ c.has_source.ensures
    c.if-has_source.true)
    _ _ _ _ _ c.without_dropping.ensures

pub returns-in_default : goal.returns-in_default
returns-in_default c =
    let args = c.args in
    gives_map _ _
    (deepen_none args.store.now args.places.now args.map args.path.now args.node.now args.out.now args.slots.now
    c.requires _ c.validate_call.ensures c.in_ok-validate_call.was _ c.has_source.ensures
    c.if-has_source.false c.find_class.result c.find_class.ensures c.in_default.is)
    _ _ _ _ _ c.without_dropping-in_default.ensures

pub deepen_by-requires : goal.deepen_by-requires
deepen_by-requires c =
    let args = c.args in
    let pre = c.requires in record {
      valid_list = sound args.store.now args.places.now args.map args.path.now args.node.now args.out.now args.slots.now (pre) _
          c.validate_call.ensures c.in_ok-validate_call.was;
      node_len_bound = deepen_node_short args.store.now args.places.now args.map args.path.now args.node.now args.out.now args.slots.now
          (pre) _ c.validate_call.ensures c.in_ok-validate_call.was;
      i_lt_count = deepen_inside args.store.now args.places.now args.map args.path.now args.node.now args.out.now args.slots.now
          (pre) _ c.validate_call.ensures c.in_ok-validate_call.was _ c.has_source.ensures
          c.if-has_source.false c.find_class.result c.find_class.ensures c.in-Some.f c.in-Some.is;
    }

pub returns : goal.returns
returns c =
    let args = c.args in
    gives_map _ _
    (deepen_made args.store.now args.places.now args.map args.path.now args.node.now args.out.now args.slots.now
    c.requires _ c.validate_call.ensures c.in_ok-validate_call.was _ c.has_source.ensures
    c.if-has_source.false c.find_class.result c.find_class.ensures c.in-Some.f c.in-Some.is)
    _ _ _ _ _ c.deepen_by.ensures
