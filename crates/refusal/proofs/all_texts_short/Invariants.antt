-- The loop. Every text before the index passes.
use mathlib.Core.Path.{◌≡◌}
use mathlib.Core.Bool.{true}
use Rattle.std.specs.List.{list_all}
use lib.Dec.{leb}
use lib.ListN.{length, take}
use Rattle.refusal.proofs.all_texts_short.Given as goal

abbrev pub invariant-loop-text : goal.invariant-loop-text
invariant-loop-text l = list_all (λ t. leb (length t.now) 255) (take l.text-index l.texts) ≡ true
