use Rattle.validate.proofs.ValidateBranches.{legal_if_ends}
use Rattle.validate.proofs.validate_lists.Goals as goal

pub list_is_legal-requires : goal.list_is_legal-requires
list_is_legal-requires c = legal_if_ends _ _ _ _ c.are_ends-one.ensures

pub list_is_legal-legal-requires : goal.list_is_legal-legal-requires
list_is_legal-legal-requires c = legal_if_ends _ _ _ _ c.are_ends-other.ensures
