use Rattle.std.proofs.Common.{◌∙◌}
use Rattle.path_prefix.proofs.PrefixBranches.{prefix_not, prefix_starts}
use Rattle.path_prefix.proofs.has_prefix.Goals as goal

pub returns-then-ends_at_boundary : goal.returns-then-ends_at_boundary
returns-then-ends_at_boundary c = prefix_starts _ _ _ _ c.ends_at_boundary.ensures c.if-ends_at_boundary.true c.starts_with.ensures

pub returns-else-ends_at_boundary : goal.returns-else-ends_at_boundary
returns-else-ends_at_boundary c = c.if-ends_at_boundary.false ∙ prefix_not _ _ _ c.ends_at_boundary.ensures c.if-ends_at_boundary.false
