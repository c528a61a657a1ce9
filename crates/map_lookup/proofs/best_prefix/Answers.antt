use Rattle.map_lookup.proofs.LookupBranches.{held_there, least_left, least_right, kept_none, kept_short, kept_on}
use Rattle.map_lookup.proofs.best_prefix.Goals as goal

-- the clauses by their names
by_clause_limit_in_bounds : {A B C D : Type 0} → A × (B × (C × D)) → record { limit_in_bounds : A; limit_in_bounds_2 : B; limit_value : C; covered_in_bounds : D }
by_clause_limit_in_bounds t = record { limit_in_bounds = t.0; limit_in_bounds_2 = t.1.0; limit_value = t.1.1.0; covered_in_bounds = t.1.1.1 }

pub loop-i-init : goal.loop-i-init
loop-i-init c = (
  held_there _ _ _ _ _ c.key_count-present.ensures c.key_offset-offset.ensures,
  least_left _ _ _ c.min-limit.ensures,
  least_right _ _ _ c.min-limit.ensures,
  kept_none _ _,
)

pub consider-f-requires : goal.consider-f-requires
consider-f-requires c = let l = c.loop-i in by_clause_limit_in_bounds (l.invariant.1, (l.invariant.2, (c.min-limit.ensures, kept_short _ _ _ _ l.invariant.3)))

pub loop-i-preserved : goal.loop-i-preserved
loop-i-preserved c =
    let l = c.loop-i in (
      l.invariant.0,
      l.invariant.1,
      l.invariant.2,
      kept_on _ _ c.args.invert _ _ c.key_offset-offset.ensures _ _ _ l.invariant.3 c.consider-f.ensures,
    )
