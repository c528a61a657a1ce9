use native.Mathlib.Omega.{arith}
use Rattle.frame_apply.proofs.ApplyBranches.{number_small}
use Rattle.frame_apply.proofs.number_byte.Goals as goal

pub overflow_cast-result : goal.overflow_cast-result
overflow_cast-result c = omega (arith, number_small c.args.x, c.number_of.ensures)
