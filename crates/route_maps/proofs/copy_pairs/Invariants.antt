-- The loop. The entries of the first i pairs are copied.
use Prim.Native.Nat.{ℕ}
use mathlib.Core.Path.{◌≡◌}
use lib.ListN.{length}
use mathlib.Core.Bool.{true}
use Rattle.pair_list_write.specs.Select.{indices_where, written_entries}
use Rattle.route_maps.proofs.copy_pairs.Given as goal

abbrev pub invariant-loop-i : goal.invariant-loop-i
invariant-loop-i l = (l.block ≡ written_entries l.places (indices_where (λ (j : ℕ). true) l.i) l.initial.block) × (length l.block ≡ length l.initial.block)
