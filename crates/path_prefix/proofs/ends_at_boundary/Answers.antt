use borrow.Author.Tests.{le-leb}
use Rattle.path_prefix.proofs.PrefixBranches.{bounded_end, bounded_at}
use Rattle.path_prefix.proofs.ends_at_boundary.Goals as goal

pub returns-then-path-n : goal.returns-then-path-n
returns-then-path-n c = rw (le-leb _ _ c.if-path-n.true) (bounded_end _ _ c.if-path-n.true)

pub returns-else-path-n : goal.returns-else-path-n
returns-else-path-n c = bounded_at _ _ _ c.if-path-n.false c.is_boundary.ensures
