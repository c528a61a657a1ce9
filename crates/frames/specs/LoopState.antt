-- Method: Whether the main loop goes on after replies were to be written.
use Rattle.std.specs.Prelude.{Option, None, Some}
use Rattle.frames.specs.declared.Failure.{Failure}
use Rattle.frames.specs.declared.LoopState.{LoopState}
use Rattle.frames.specs.declared.LoopState.TheVariants.{Failed}

-- The state s, unless writing failed.
abbrev pub unless_failed : Option Failure → LoopState → LoopState
unless_failed None s = s
unless_failed (Some e) s = Failed e
