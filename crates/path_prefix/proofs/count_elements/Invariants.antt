-- The loop. n elements begin before index i; the rest has the others.
use mathlib.Core.Path.{◌≡◌}
use Prim.Native.Nat.{◌+◌, ◌≤◌}
use lib.ListN.{drop}
use Rattle.path_prefix.specs.Elements.{count_elements}
use Rattle.path_prefix.proofs.count_elements.Given as goal

abbrev pub invariant-loop-i : goal.invariant-loop-i
invariant-loop-i l = (l.n ≤ l.i) × (count_elements l.selections l.text ≡ l.n + count_elements l.selections (drop l.i l.text))
