-- What was written is the beginning of the bytes; each turn takes one of the tries.
use Rattle.std.proofs.Common.{◌≤◌, length, take}
use Rattle.std.specs.Io.KnownBytes.{Appends}
use Rattle.stdio.proofs.write_all.Given as goal

abbrev pub invariant-loop-write : goal.invariant-loop-write
invariant-loop-write g l = (l.done ≤ length l.buf) × Appends (g.W.Write.contents l.initial.to) (g.W.Write.contents l.to) (take l.done l.buf)
