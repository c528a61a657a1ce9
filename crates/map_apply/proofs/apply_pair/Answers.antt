use Rattle.map_apply.proofs.MapBranches.{path_fitted, apply_illegal, apply_made}
use borrow.Author.Rules.{rules}
use Rattle.map_apply.proofs.apply_pair.Goals as goal

pub returns-then-is_join_illegal : goal.returns-then-is_join_illegal
returns-then-is_join_illegal c = apply_illegal _ _ _ _ _ c.is_join_illegal.ensures c.if-is_join_illegal.true

pub returns : goal.returns
returns c =
    apply_made _ _ _ _ _ c.is_join_illegal.ensures c.if-is_join_illegal.false _ _
    (rw c.ok_or.ensures.value (path_fitted _ _ _ c.join.ensures.value (search rules) _ c.join.ensures.out_after))
