-- The loop. The best so far is the best of the first i sources.
use Rattle.pair_list.specs.Places.{key_at}
use mathlib.Core.Bool.{false}
use Prim.Native.Nat.{ℕ, ◌≤◌, ◌-◌}
use mathlib.Core.Path.{◌≡◌}
use Rattle.path_prefix.specs.Prefix.{has_prefix}
use Rattle.path_prefix.specs.Elements.{element_count}
use Rattle.pair_list.specs.BestStep.{best_below}
use Rattle.map_deepen.specs.FindClass.{class_kept}
use Rattle.map_deepen.proofs.find_class.Given as goal

abbrev pub invariant-loop-i : goal.invariant-loop-i
invariant-loop-i l = class_kept l.f ≡ best_below (λ (j : ℕ). has_prefix l.node (key_at l.store l.places false j)) (λ (j : ℕ). element_count (key_at l.store l.places false j)) l.i
