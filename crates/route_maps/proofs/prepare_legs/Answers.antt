use Rattle.route_maps.proofs.PrepareBranches.{legs_over, legs_short, legs_small, places_none, table_none, places_on, table_on, legs_end}
use Rattle.route_maps.specs.Prepare.{prepared_entry}
use Rattle.route_legs.specs.LentRoute.{list_at}
use borrow.Author.Rules.{rules}
use native.Mathlib.Omega.{arith}
use Rattle.text.proofs.Clauses.{made_after_table_after}
use Rattle.route_maps.proofs.prepare_legs.Goals as goal

pub returns-then-n-gt16 : goal.returns-then-n-gt16
returns-then-n-gt16 c = made_after_table_after (legs_over _ _ _ c.if-n-gt16.true)

pub returns-then-made-ne4096 : goal.returns-then-made-ne4096
returns-then-made-ne4096 c = made_after_table_after (legs_short _ _ _ c.if-made-ne4096.true)

pub returns-then-table-ne48 : goal.returns-then-table-ne48
returns-then-table-ne48 c = made_after_table_after (legs_small _ _ _ c.if-table-ne48.true)

pub loop-k-init : goal.loop-k-init
loop-k-init c = (c.if-made-ne4096.false, c.if-table-ne48.false, places_none _ _, table_none _ _)

pub prepare_leg-requires : goal.prepare_leg-requires
prepare_leg-requires c =
    record {
      k_bound = omega (arith, c.loop-k-test.true, c.if-n-gt16.false);
      made_len = (c.loop-k.invariant.0, c.loop-k.invariant.1);
    }

pub loop-k-preserved : goal.loop-k-preserved
unfolding list_at prepared_entry
loop-k-preserved c =
    let l = c.loop-k in
    (search rules, search rules, places_on _ _ _ _ _ l.invariant.2 c.prepare_leg.ensures.made_after, table_on _ _ _ _ _ l.invariant.3 c.prepare_leg.ensures.table_after)

pub returns : goal.returns
returns c =
    let l = c.loop-k in
    made_after_table_after (legs_end _ _ _ c.if-n-gt16.false c.if-made-ne4096.false c.if-table-ne48.false _ c.loop-k-test.false l.auto.k-end _ _ l.invariant.2 l.invariant.3)
