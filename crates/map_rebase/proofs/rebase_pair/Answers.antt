use Rattle.pair_list_write.proofs.PushBranches.{pair_there}
use native.Mathlib.Omega.{arith}
use Rattle.pair_buffer.specs.Ends.{replaced_or_same}
use Rattle.pair_buffer.proofs.LengthLaws.{placed_back, replaced_short, part_within, part_is}
use Rattle.map_rebase.proofs.RebaseBranches.{part_room, part_done}
use Rattle.text.proofs.Clauses.{appended_pair_upper_bound}
use Rattle.map_rebase.proofs.rebase_pair.Goals as goal

pub slice_bounds-made-end : goal.slice_bounds-made-end
slice_bounds-made-end c =
    let args = c.args in
    let its-replaced-short = replaced_short args.t.now args.from.now args.to.now c.requires.t_len_bound c.requires.to_len_bound in
    omega (
      arith,
      part_within (replaced_or_same args.t.now args.from.now args.to.now) _
          (placed_back _ _ _ _ (c.replace_into-k.ensures.value, c.replace_into-k.ensures.out_after) its-replaced-short).0 511 its-replaced-short,
    )

pub slice_bounds-push_pair-end : goal.slice_bounds-push_pair-end
slice_bounds-push_pair-end c =
    let args = c.args in
    let its-replaced-short = replaced_short args.t.now args.from.now args.to.now c.requires.t_len_bound c.requires.to_len_bound in
    part_is (replaced_or_same args.t.now args.from.now args.to.now) _
    (placed_back _ _ _ _ (c.replace_into-k.ensures.value, c.replace_into-k.ensures.out_after) its-replaced-short).0 _
    (placed_back _ _ _ _ (c.replace_into-k.ensures.value, c.replace_into-k.ensures.out_after) its-replaced-short).1

pub returns : goal.returns
returns c =
    let args = c.args in
    let its-replaced-short = replaced_short args.t.now args.from.now args.to.now c.requires.t_len_bound c.requires.to_len_bound in
    let its-replacedOrSame = replaced_or_same args.t.now args.from.now args.to.now in
    appended_pair_upper_bound (part_done its-replacedOrSame _ _ (placed_back _ _ _ _ (c.replace_into-k.ensures.value, c.replace_into-k.ensures.out_after) its-replaced-short).0
    (placed_back _ _ _ _ (c.replace_into-k.ensures.value, c.replace_into-k.ensures.out_after) its-replaced-short).1 its-replaced-short args.s.now c.requires.s_len_bound args.at
    args.n _ args.bytes.now _ args.slots.now _
    (pair_there _ _ _ _ _ _
    (part_room its-replacedOrSame _ _ (placed_back _ _ _ _ (c.replace_into-k.ensures.value, c.replace_into-k.ensures.out_after) its-replaced-short).0
    (placed_back _ _ _ _ (c.replace_into-k.ensures.value, c.replace_into-k.ensures.out_after) its-replaced-short).1 its-replaced-short args.s.now c.requires.s_len_bound args.at _
    c.requires.at_in_bounds)
    c.requires.n_in_bounds _ _ _ (c.push_pair.ensures.value, (c.push_pair.ensures.bytes_after, c.push_pair.ensures.slots_after))))
