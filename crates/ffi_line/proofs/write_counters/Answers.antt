use native.Mathlib.Omega.{arith}
use lib.ListN.{length-set}
use Rattle.ffi_line.proofs.CallBranches.{counters_stored}
use Rattle.ffi_line.proofs.write_counters.Goals as goal

pub bounds-kept-1 : goal.bounds-kept-1
bounds-kept-1 c = simp length-set (omega (arith, c.requires))

pub bounds-kept-2 : goal.bounds-kept-2
bounds-kept-2 c = simp length-set (omega (arith, c.requires))

pub bounds-kept-3 : goal.bounds-kept-3
bounds-kept-3 c = simp length-set (omega (arith, c.requires))

pub returns : goal.returns
returns c = counters_stored c.args.kept.now _ _ _ _ _ c.requires
