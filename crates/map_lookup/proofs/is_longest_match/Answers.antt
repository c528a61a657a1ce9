use borrow.Author.Rules.{rules}
use Rattle.map_lookup.proofs.LookupBranches.{held_there, least_left, least_right, key_is}
use Rattle.map_lookup.proofs.OtherWinsBranches.{unbeaten_none, unbeaten_on, best_after, best_unserved, best_lost, best_found}
use mathlib.Core.Path.{ap}
use mathlib.Core.Bool.{not}
use Rattle.map_lookup.proofs.is_longest_match.Goals as goal

pub returns-then-n-i : goal.returns-then-n-i
returns-then-n-i c = best_after _ _ _ _ c.if-n-i.true

pub returns-then-not-matches : goal.returns-then-not-matches
returns-then-not-matches c = best_unserved _ _ _ _ _ _ c.key_at-key.ensures c.matches.ensures (ap not c.if-not-matches.true)

pub loop-k-init : goal.loop-k-init
loop-k-init c = (held_there _ _ _ _ _ c.key_count-present.ensures c.key_offset-offset.ensures, least_left _ _ _ c.min-limit.ensures, least_right _ _ _ c.min-limit.ensures, unbeaten_none _ _ _)

pub returns-then-other_wins : goal.returns-then-other_wins
returns-then-other_wins c =
    best_lost _
    c.args.store.now
    c.args.places.now
    _
    c.args.invert
    _ _ _ c.key_at-key.ensures
    c.matches.ensures _
    c.key_count-present.ensures _ _
    c.key_offset-offset.ensures (search rules) _ c.other_wins.ensures c.if-other_wins.true

pub loop-k-preserved : goal.loop-k-preserved
loop-k-preserved c =
    let l = c.loop-k in (
      l.invariant.0,
      l.invariant.1,
      l.invariant.2,
      unbeaten_on _ _ _ _ _ _ _
          (key_is
          c.args.store.now
          c.args.places.now
          c.args.invert
          _ _ c.key_offset-offset.ensures)
          c.key_at-key.ensures c.other_wins.ensures
          c.if-other_wins.false l.invariant.3,
    )

pub returns : goal.returns
returns c =
    let args = c.args in
    best_found _ args.store.now args.places.now _ args.invert _ _ _ c.key_at-key.ensures c.matches.ensures _
    c.key_count-present.ensures _ c.if-n-i.false (ap not c.if-not-matches.false) c.loop-k-test.false c.loop-k.auto.k-end c.loop-k.invariant.3
