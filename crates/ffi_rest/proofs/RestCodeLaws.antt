-- The three numbers of a carried code are read back from it.
use native.Mathlib.Omega.{arith}
use Rattle.ffi_rest.specs.RestCode.{carried_value, CodeReadsBack}

pub code_reads_back : CodeReadsBack
unfolding carried_value
code_reads_back len start rest l s r = (omega arith, omega arith, omega arith, omega arith)
