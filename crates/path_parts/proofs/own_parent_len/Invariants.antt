-- The loop. No part begins at or after index i: the search goes backwards from the end.
-- Invariant: no part begins after index i.
use Rattle.std.specs.Prelude.{None}
use mathlib.Core.Path.{◌≡◌}
use lib.ListN.{drop}
use Rattle.path_parts.specs.Parent.{last_part_start}
use Rattle.path_parts.proofs.own_parent_len.Given as goal

abbrev pub invariant-loop-i : goal.invariant-loop-i
invariant-loop-i l = last_part_start (drop l.i l.path) ≡ None
