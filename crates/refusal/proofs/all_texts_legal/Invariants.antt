-- The loop. Every text before the index passes.
use mathlib.Core.Path.{◌≡◌}
use mathlib.Core.Bool.{true}
use Rattle.std.specs.List.{list_all}
use lib.ListN.{take}
use Rattle.path_grammar.specs.Legal.{legal}
use Rattle.refusal.proofs.all_texts_legal.Given as goal

abbrev pub invariant-loop-text : goal.invariant-loop-text
invariant-loop-text l = list_all (λ t. legal t.now) (take l.text-index l.texts) ≡ true
