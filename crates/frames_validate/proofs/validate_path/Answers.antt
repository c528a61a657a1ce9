-- The refusal of the legs and that of the path, whichever question is put first, is the refusal of both together.
use Rattle.frames_validate.proofs.UseBranches.{path_validated}
use Rattle.frames_validate.proofs.validate_path.Goals as goal

pub returns : goal.returns
returns c =
    path_validated _ _ _ _ _ _ c.validate_legs-q.ensures c.last_bytes.ensures c.new.ensures
    c.first_refusal.ensures
