use Rattle.path_derive.proofs.PartBranches.{listed_after}
use Rattle.path_derive.proofs.ancestors.Goals as goal

pub returns-clause-lengths_after : goal.returns-clause-lengths_after
returns-clause-lengths_after c = rw c.ok_or.ensures.value (listed_after _ _ _ _ c.write_ancestors.ensures.value c.write_ancestors.ensures.out_after)
