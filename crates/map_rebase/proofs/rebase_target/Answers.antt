use Rattle.std.proofs.Common.{rules, Err, ◌≡◌, arith, refl}
use Rattle.map_function.proofs.NewBranches.{refusing_map, gives_map}
use Rattle.map_rebase.proofs.CallBranches.{rebase_refused, sound, rebase_from, rebase_to, rebase_identity, rebase_same, rebase_made}
use mathlib.Core.Path.{ap}
use mathlib.Core.Bool.{not, true, false, ◌&&◌}
use lib.Dec.{eqb}
use Rattle.std.proofs.lemmas.Grind.{common_steps}
use Rattle.map_rebase.proofs.rebase_target.Goals as goal

pub returns-in_err-validate_call : goal.returns-in_err-validate_call
returns-in_err-validate_call c = let r : c.from_residual.result ≡ Err c.in_err-validate_call.field-0.0 = search rules in rw r (let args = c.args in refusing_map _ _ (rebase_refused args.store.now args.places.now args.map args.from.now args.to.now args.out.now args.slots.now _ c.validate_call.ensures _ c.in_err-validate_call.was) _ _)

pub from_pair_identity-requires : goal.from_pair_identity-requires
from_pair_identity-requires c =
    let args = c.args in record {
      s_len_bound = rebase_from args.store.now args.places.now args.map args.from.now args.to.now args.out.now args.slots.now _
          c.validate_call.ensures c.in_ok-validate_call.was;
      t_len_bound = rebase_to args.store.now args.places.now args.map args.from.now args.to.now args.out.now args.slots.now _
          c.validate_call.ensures c.in_ok-validate_call.was;
    }

pub returns-then-mark : goal.returns-then-mark
returns-then-mark c =
    let args = c.args in
    let z : (eqb args.map.count 0 && args.map.has_root_identity) ≡ true = grind (arith, common_steps) in
    gives_map _ _
    (rebase_identity args.store.now args.places.now args.map args.from.now args.to.now args.out.now args.slots.now _
    c.validate_call.ensures c.in_ok-validate_call.was _ z refl)
    _ _ _ _ _ c.from_pair_identity.ensures

pub returns-then-not-any_target : goal.returns-then-not-any_target
returns-then-not-any_target c =
    let args = c.args in
    let z : (eqb args.map.count 0 && args.map.has_root_identity) ≡ false = grind (arith, common_steps) in
    gives_map _ _
    (rebase_same args.store.now args.places.now args.map args.from.now args.to.now args.out.now args.slots.now _
    c.validate_call.ensures c.in_ok-validate_call.was _ z refl _
    c.any_target.ensures (ap not c.if-not-any_target.true))
    _ _ _ _ _ c.without_dropping.ensures

pub rebase_pairs-requires : goal.rebase_pairs-requires
rebase_pairs-requires c =
    let args = c.args in record {
      valid_list = sound args.store.now args.places.now args.map args.from.now args.to.now args.out.now args.slots.now _
          c.validate_call.ensures c.in_ok-validate_call.was;
      to_len_bound = rebase_to args.store.now args.places.now args.map args.from.now args.to.now args.out.now args.slots.now _
          c.validate_call.ensures c.in_ok-validate_call.was;
    }

pub returns : goal.returns
returns c =
    let args = c.args in
    let z : (eqb args.map.count 0 && args.map.has_root_identity) ≡ false = grind (arith, common_steps) in
    gives_map _ _
    (rebase_made args.store.now args.places.now args.map args.from.now args.to.now args.out.now args.slots.now _
    c.validate_call.ensures c.in_ok-validate_call.was _ z refl _
    c.any_target.ensures (ap not c.if-not-any_target.false))
    _ _ _ _ _ c.rebase_pairs.ensures
