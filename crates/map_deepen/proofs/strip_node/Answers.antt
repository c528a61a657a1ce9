use Rattle.map_deepen.proofs.DeepenBranches.{node_done}
use Rattle.map_deepen.proofs.strip_node.Goals as goal

-- the clauses by their names
by_clause_value : {A B C : Type 0} → A × (B × C) → record { value : A; out_after : B; upper_bound : C }
by_clause_value t = record { value = t.0; out_after = t.1.0; upper_bound = t.1.1 }

pub returns : goal.returns
returns c =
    by_clause_value (node_done c.args.path.now c.args.out.now _ c.requires c.strip_into.ensures.value _
    c.unwrap_or.ensures _ c.strip_into.ensures.out_after)
