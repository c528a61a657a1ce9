use native.Mathlib.Omega.{arith}
use Rattle.map_derive.proofs.SwapLaws.{swapped_list}
use Rattle.map_implied_class.proofs.ImpliedBranches.{invert_room, inverted}
use borrow.Author.Rules.{rules}
use Rattle.map_implied_class.proofs.invert.Goals as goal

pub finish_map-requires : goal.finish_map-requires
finish_map-requires c =
    record {
      n_bound = search rules;
      slots_value = (let args = c.args in
          invert_room args.store.now args.places.now _ args.n
          (swapped_list _ _ _ _ _ c.swap_ends.ensures c.requires.n_bound.1 (omega (arith, c.requires.n_bound.0))) _ _ c.requires.n_bound.0 c.requires.n_value c.requires.in_bounds
          c.requires.in_bounds_2);
    }

pub returns : goal.returns
returns c =
    let args = c.args in
    inverted args.store.now args.places.now _ args.n
    (swapped_list _ _ _ _ _ c.swap_ends.ensures c.requires.n_bound.1 (omega (arith, c.requires.n_bound.0))) args.mark _ _ _ _ _
    (c.finish_map.ensures.value, (c.finish_map.ensures.out_after, c.finish_map.ensures.slots_after))
