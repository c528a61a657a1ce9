use Rattle.std.proofs.Common.{rules, Err, ◌≡◌, refl, arith, true, false, ◌&&◌, eqb}
use Rattle.std.proofs.lemmas.Grind.{common_steps}
use Rattle.map_function.proofs.NewBranches.{refusing_map, gives_map}
use Rattle.map_compose.proofs.CallBranches.{call_refused, outer_sound, inner_sound, call_inner, call_outer, call_composed}
use Rattle.map_compose.proofs.compose.Goals as goal

pub returns-in_err-validate_lists : goal.returns-in_err-validate_lists
returns-in_err-validate_lists c = let r : c.from_residual.result ≡ Err c.in_err-validate_lists.field-0.0 = search rules in rw r (let args = c.args in refusing_map _ _ (call_refused args.store.now args.places.now args.outer args.istore.now args.iplaces.now args.inner args.out.now args.slots.now _ c.validate_lists.ensures _ c.in_err-validate_lists.was) _ _)

pub returns-then-mark : goal.returns-then-mark
returns-then-mark c =
    let args = c.args in
    let y : (eqb args.outer.count 0 && args.outer.has_root_identity) ≡ true = grind (arith, common_steps) in
    gives_map _ _
    (call_inner args.store.now args.places.now args.outer args.istore.now args.iplaces.now args.inner args.out.now
    args.slots.now _ c.validate_lists.ensures c.in_ok-validate_lists.was _
    c.composed_time-time.ensures _ refl y)
    _ _ _ _ _ c.without_dropping.ensures

pub returns-then-imark : goal.returns-then-imark
returns-then-imark c =
    let args = c.args in
    let y : (eqb args.outer.count 0 && args.outer.has_root_identity) ≡ false = grind (arith, common_steps) in
    let z : (eqb args.inner.count 0 && args.inner.has_root_identity) ≡ true = grind (arith, common_steps) in
    gives_map _ _
    (call_outer args.store.now args.places.now args.outer args.istore.now args.iplaces.now args.inner args.out.now
    args.slots.now _ c.validate_lists.ensures c.in_ok-validate_lists.was _
    c.composed_time-time.ensures _ refl y _ refl z)
    _ _ _ _ _ c.without_dropping-then-imark.ensures

pub compose_lists-requires : goal.compose_lists-requires
compose_lists-requires c =
    let args = c.args in record {
      valid_list = outer_sound args.store.now args.places.now args.outer args.istore.now args.iplaces.now args.inner args.out.now
          args.slots.now _ c.validate_lists.ensures c.in_ok-validate_lists.was;
      valid_list_2 = inner_sound args.store.now args.places.now args.outer args.istore.now args.iplaces.now args.inner args.out.now
          args.slots.now _ c.validate_lists.ensures c.in_ok-validate_lists.was;
    }

pub returns : goal.returns
returns c =
    let args = c.args in
    let y : (eqb args.outer.count 0 && args.outer.has_root_identity) ≡ false = grind (arith, common_steps) in
    let z : (eqb args.inner.count 0 && args.inner.has_root_identity) ≡ false = grind (arith, common_steps) in
    gives_map _ _
    (call_composed args.store.now args.places.now args.outer args.istore.now args.iplaces.now args.inner args.out.now
    args.slots.now _ c.validate_lists.ensures c.in_ok-validate_lists.was _
    c.composed_time-time.ensures _ refl y _ refl z)
    _ _ _ _ _ c.compose_lists.ensures
