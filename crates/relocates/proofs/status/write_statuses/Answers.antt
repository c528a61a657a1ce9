use Rattle.relocates.proofs.InitialBranches.{has_initial}
use borrow.Author.Rules.{rules}
use Rattle.relocates.proofs.status.write_statuses.Goals as goal

pub write_conflicts-requires : goal.write_conflicts-requires
write_conflicts-requires c =
    record {
      n_bound = search rules;
      holds_initial_statuses = has_initial _ _ _ _ _ c.write_initial.ensures;
    }
