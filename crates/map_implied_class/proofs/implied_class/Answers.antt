use Rattle.std.proofs.Common.{rules, Err, ◌≡◌}
use Rattle.map_function.proofs.NewBranches.{refusing_map, gives_map}
use Rattle.map_implied_class.proofs.ImpliedBranches.{implied_refused, implied_same, transfer_sound, class_sound, implied_other}
use Rattle.map_implied_class.proofs.implied_class.Goals as goal

pub returns-in_err-validate_lists : goal.returns-in_err-validate_lists
returns-in_err-validate_lists c = let r : c.from_residual.result ≡ Err c.in_err-validate_lists.field-0.0 = search rules in rw r (let args = c.args in refusing_map _ _ (implied_refused args.store.now args.places.now args.transfer args.cstore.now args.cplaces.now args.class args.out.now args.slots.now _ c.validate_lists.ensures _ c.in_err-validate_lists.was) _ _)

pub returns-then-is_identity : goal.returns-then-is_identity
returns-then-is_identity c =
    let args = c.args in
    gives_map _ _
    (implied_same args.store.now args.places.now args.transfer args.cstore.now args.cplaces.now args.class args.out.now
    args.slots.now _ c.validate_lists.ensures c.in_ok-validate_lists.was _ c.is_identity.ensures
    c.if-is_identity.true)
    _ _ _ _ _ c.without_dropping.ensures

pub implied_in-requires : goal.implied_in-requires
implied_in-requires c =
    let args = c.args in record {
      valid_list = transfer_sound args.store.now args.places.now args.transfer args.cstore.now args.cplaces.now args.class args.out.now
          args.slots.now _ c.validate_lists.ensures c.in_ok-validate_lists.was;
      valid_list_2 = class_sound args.store.now args.places.now args.transfer args.cstore.now args.cplaces.now args.class args.out.now
          args.slots.now _ c.validate_lists.ensures c.in_ok-validate_lists.was;
    }

pub returns : goal.returns
returns c =
    let args = c.args in
    gives_map _ _
    (implied_other args.store.now args.places.now args.transfer args.cstore.now args.cplaces.now args.class args.out.now
    args.slots.now _ c.validate_lists.ensures c.in_ok-validate_lists.was _ c.is_identity.ensures
    c.if-is_identity.false)
    _ _ _ _ _ c.implied_in.ensures
