-- The buffer keeps its length; a call that failed read nothing; each turn takes one of the tries.
use Rattle.std.proofs.Common.{◌≡◌, length}
use Rattle.std.specs.Io.KnownBytes.{Keeps}
use Rattle.stdio.proofs.read.Given as goal

abbrev pub invariant-loop-attempt : goal.invariant-loop-attempt
invariant-loop-attempt g l = (length l.buf ≡ length l.initial.buf) × Keeps (g.R.Read.remaining l.initial.from) (g.R.Read.remaining l.from)
