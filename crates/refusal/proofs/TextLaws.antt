-- The tests of several texts, as functions on the list of the references to them.
use Rattle.std.specs.Prelude.{map}
use Rattle.std.specs.List.{list_all}
use Rattle.std.proofs.Common.{Bor}
use mathlib.Core.Path.{◌≡◌, refl, ap}
use mathlib.Core.Bool.{◌&&◌}
use mathlib.Core.List.{List, [], ◌∷◌}
use Prim.Native.Nat.{ℕ}
use lib.Dec.{leb}
use lib.ListN.{length}
use Rattle.path_grammar.specs.Legal.{legal, at_most255}
use Rattle.refusal.specs.Refusal.{all_texts_short, all_texts_legal}

pub short_texts : (ts : List (Bor (List ℕ))) → list_all (λ t. leb (length t.now) 255) ts ≡ all_texts_short (map (λ t. t.now) ts)
unfolding all_texts_short at_most255
short_texts [] = refl
short_texts (t ∷ r) = ap (λ b. leb (length t.now) 255 && b) (short_texts r)

pub legal_texts : (ts : List (Bor (List ℕ))) → list_all (λ t. legal t.now) ts ≡ all_texts_legal (map (λ t. t.now) ts)
unfolding all_texts_legal
legal_texts [] = refl
legal_texts (t ∷ r) = ap (λ b. legal t.now && b) (legal_texts r)
