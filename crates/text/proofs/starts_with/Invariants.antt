-- The loop. `same` says whether the bytes compared so far agree; with it the rest decides.
use mathlib.Core.Path.{◌≡◌}
use mathlib.Core.Bool.{◌&&◌}
use lib.ListN.{length, drop}
use Rattle.text.specs.Text.{starts_with}
use Rattle.text.proofs.starts_with.Given as goal

abbrev pub invariant-loop-a : goal.invariant-loop-a
invariant-loop-a l = starts_with l.prefix l.text ≡ (l.same && starts_with (drop (length l.yielded) l.prefix) (drop (length l.yielded) l.text))
