use Rattle.path_join.specs.Join.{join}
use Rattle.pair_list.specs.Places.{pairs_in}
use Rattle.compose_pairs.proofs.PullBackBranches.{add_there, add_new}
use Rattle.compose_pairs.proofs.add_joined.Goals as goal

pub returns-then-has_joined : goal.returns-then-has_joined
returns-then-has_joined c =
    let args = c.args in
    add_there (pairs_in args.bytes.now args.slots.now args.b.n) args.b.n args.b.at args.bytes.now args.slots.now
    c.requires.packed args.t.now (join args.old.now args.new.now args.remainder.now) _ c.has_joined.ensures
    c.if-has_joined.true

pub returns : goal.returns
returns c =
    let args = c.args in
    add_new (pairs_in args.bytes.now args.slots.now args.b.n) args.b.n args.b.at args.bytes.now args.slots.now c.requires.packed
    args.t.now (join args.old.now args.new.now args.remainder.now) _ c.has_joined.ensures c.if-has_joined.false c.requires.t_in_bounds
    c.requires.n_in_bounds _ c.join_at-k.ensures.value _ _ _ c.join_at-k.ensures.bytes_after c.write_at.ensures
    c.write_entry.ensures
