use native.Mathlib.Omega.{arith}
use Rattle.map_spec.specs.Map.{lent_map}
use Rattle.pair_list_write.proofs.PackedLaws.{packed_stored}
use Rattle.compose_pairs.proofs.ComposeBranches.{composed}
use Rattle.compose_pairs.proofs.compose_both.Goals as goal

pub compose_all-at-requires : goal.compose_all-at-requires
compose_all-at-requires c = c.requires

pub pull_back_all-requires : goal.pull_back_all-requires
pull_back_all-requires c =
    let pre = c.requires in record {
      can_compose = record {
        outer_ends = pre.outer_ends;
        inner_ends = pre.inner_ends;
        scratch = record { room = omega (arith, pre.scratch.room); entries = omega (arith, pre.scratch.entries) };
      };
      packed = packed_stored _ _ _ _ _ _ _ c.compose_all-at.ensures.packed_list;
      at_bound = c.compose_all-at.ensures.upper_bound;
    }

pub returns : goal.returns
returns c =
    let args = c.args in
    composed (lent_map args.store.now args.places.now args.count args.mark)
    (lent_map args.istore.now args.iplaces.now args.inner args.imark) _ _ _ _ _ _ _ _ _ _ c.compose_all-at.ensures.packed_list
    c.pull_back_all.ensures
