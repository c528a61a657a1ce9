use Rattle.validate.proofs.ValidateBranches.{legal_if_ends}
use Rattle.validate.proofs.validate_call.Goals as goal

pub are_legal-legal-requires : goal.are_legal-legal-requires
are_legal-legal-requires c = legal_if_ends _ _ _ _ c.are_ends-ends.ensures
